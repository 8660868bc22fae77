-- Laws of solving a block.
pub mod Offers
pub mod Rows
pub mod Puts
pub mod Growths
pub mod Fills
