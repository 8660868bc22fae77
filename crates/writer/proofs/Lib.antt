-- What the proofs of the functions share.
pub mod Laws
pub mod Parts
pub mod Spans
pub mod Writings
