-- Definitions that contracts of private functions alone cite.
pub mod Emission
pub mod LabelMap
pub mod StepFaults
pub mod Objects
pub mod Kept
pub mod TextSteps
pub mod Drafts
