-- The lemmas of this crate.
pub mod Local
pub mod Objects
pub mod Systems
pub mod RefusedSystems
pub mod Images
pub mod ElfFiles
pub mod Lines
pub mod Sources
pub mod BadStart
pub mod Sets
pub mod PlacedSets
pub mod Names
