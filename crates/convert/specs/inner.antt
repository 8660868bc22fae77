-- Steps of the proof, and no promise to a caller.
pub mod Passing
