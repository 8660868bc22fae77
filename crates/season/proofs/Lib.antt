-- Laws of the season's writer, and of the run that is folded.
pub mod Writings
pub mod Runs
pub mod Verdicts
pub mod AsFolder
