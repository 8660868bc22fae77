-- What filling the table rests on and promises.
pub mod Filling
