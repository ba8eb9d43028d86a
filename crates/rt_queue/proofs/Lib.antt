pub mod Common
pub mod OrderLemmas
pub mod LeastLemmas
pub mod GameLemmas
