-- What the functions inside promise one another: steps of the proof, and no promise to a caller.
pub mod Passing
