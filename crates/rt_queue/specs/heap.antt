-- The definitions that the contracts of the moves in a heap cite.
pub mod Places
pub mod HeapOrder
pub mod IsHeap
