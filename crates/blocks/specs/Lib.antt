-- The work of the season folder, and what it holds.
pub mod Keys
pub mod Solved
