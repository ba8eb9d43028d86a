pub mod Common
pub mod JobLemmas
pub mod AccountLemmas
