pub mod WordLemmas
pub mod SpacelessLemmas
pub mod CommandLaws
