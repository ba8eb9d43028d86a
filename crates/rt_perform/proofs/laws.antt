-- The lemmas of this crate.
pub mod Bytes
pub mod Wholes
pub mod Texts
pub mod Made
pub mod Requests
pub mod Placed
pub mod Linked
