-- What solving a block rests on and promises.
pub mod Tops
pub mod Solving
pub mod Given
