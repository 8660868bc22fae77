-- What the functions that put bytes rest on, and what a walk that writes promises.
pub mod Bounds
pub mod Written
