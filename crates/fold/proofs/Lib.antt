-- What the proofs of the fold program share.
pub mod Puts
pub mod Digits
pub mod Room
pub mod Answers
pub mod More
pub mod OneTable
pub mod FreeMarks
