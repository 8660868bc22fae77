-- What the proofs of the functions share.
pub mod Digits
pub mod Cells
pub mod Tables
pub mod Listings
pub mod Uses
pub mod ByNumber
pub mod Following
pub mod Spots
