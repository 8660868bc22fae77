-- The season folder's answer, and what its writer rests on; in inner, what its functions promise one another.
pub mod Folding
pub mod Writing
pub mod inner
