-- Definitions that contracts of private functions alone cite.
pub mod Words
pub mod InstructionOperands
pub mod Names
