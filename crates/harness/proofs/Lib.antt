-- Laws that the proofs of `harness` share.
pub mod Says
pub mod Fillings
pub mod Runs
pub mod Calls
