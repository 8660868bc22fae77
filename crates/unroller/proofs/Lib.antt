-- What the unroller's function proofs share.
pub mod Stores
pub mod Places
pub mod Walks
pub mod Answers
