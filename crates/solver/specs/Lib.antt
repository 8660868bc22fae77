-- What solving a row rests on and promises.
pub mod Rows
pub mod Ends
