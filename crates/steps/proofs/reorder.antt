-- What the proofs of `reorder` and of the functions below it use, and what a pass over any kind of record is for crates above.
pub mod ByMasks
pub mod Reordering
