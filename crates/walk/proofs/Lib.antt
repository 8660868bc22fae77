-- What the walk's function proofs share.
pub mod Said
pub mod Walking
pub mod Commands
pub mod Wholes
