-- The definitions that the contracts of admission cite.
pub mod FaultNumber
pub mod FaultText
pub mod Limits
pub mod Weight
pub mod Admission
pub mod Refusal
pub mod AdmittedSet
pub mod Utilisation
pub mod Reservation
