-- What the walks over a fold that was read before promise one another: steps of the proof, and no promise to a caller.
pub mod Standing
