pub mod AccountLaws
pub mod ArrivalLemmas
pub mod SpendingLaws
