-- What the contracts of the index and the finder cite.
pub mod Numbers
pub mod Nodes
pub mod Index
pub mod Finding
pub mod Answers
pub mod inner
