-- What the proofs over an output that is being written share.
pub mod Along
