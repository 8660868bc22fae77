-- What the writer rests on and promises.
pub mod Writing
