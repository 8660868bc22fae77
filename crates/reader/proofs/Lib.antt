-- What the readers' function proofs share.
pub mod Answers
pub mod Nodes
