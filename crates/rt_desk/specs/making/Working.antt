-- What private contracts cite.
pub mod Parts
