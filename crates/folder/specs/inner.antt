-- What the functions inside the folder promise one another: steps of the proof, and no promise to a caller.
pub mod Prices
pub mod Run
