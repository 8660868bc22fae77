-- How far a walk has come, in terms of the format's machine.
pub mod Walk
