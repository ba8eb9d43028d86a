pub mod SystemLemmas
pub mod EndLemmas
