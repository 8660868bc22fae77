-- What the proofs of the functions share, what is always enough to lend, that equal tables change nothing, and what free marks
-- and marks of every label decide.
pub mod PriceLists
pub mod Runs
pub mod Verdicts
pub mod Enough
pub mod OneTable
pub mod Marks
