-- What the proofs of the functions share.
pub mod Entries
pub mod Steps
pub mod Singles
pub mod Levels
pub mod Recursion
