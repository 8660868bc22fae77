-- Laws of keys and slots, of flat runs, and of what the blocks hold.
pub mod Slots
pub mod Flats
pub mod Bests
