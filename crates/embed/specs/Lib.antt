-- What the boundary returns and leaves in the lent answer.
pub mod Answers
