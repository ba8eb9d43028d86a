pub mod WeightLemmas
pub mod RefusalLemmas
pub mod UtilisationLemmas
pub mod ReservationLemmas
