-- The theorems about the nodes that unrolling writes and about the index, and what the proofs of several functions use.
pub mod Lists
pub mod Nodes
pub mod Sums
pub mod Passing
pub mod Outermost
pub mod Descending
pub mod Accepted
pub mod Answers
pub mod Theorems
pub mod Examples
