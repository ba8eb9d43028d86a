pub mod PushedLemmas
