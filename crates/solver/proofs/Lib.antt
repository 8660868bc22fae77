-- What the proofs of the functions share.
pub mod Offers
pub mod Stretches
pub mod Growths
pub mod Sources
pub mod Extents
pub mod Putting
pub mod Marks
pub mod Endings
pub mod Solving
pub mod Lasts
pub mod Entering
