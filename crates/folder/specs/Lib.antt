-- The folder's answer; in inner, what its functions promise one another.
pub mod Folding
pub mod OneTable
pub mod FreeMarks
pub mod inner
