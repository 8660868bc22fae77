-- The definitions that a reader must believe, in the order in which they build on each other; in inner, what the walks over a
-- fold promise one another.
pub mod Limits
pub mod Order
pub mod Forest
pub mod Machine
pub mod Reasons
pub mod Head
pub mod Numbers
pub mod Readings
pub mod Family
pub mod Output
pub mod Answers
pub mod StepsAndDepth
pub mod Difference
pub mod Shape
pub mod Parts
pub mod Tree
pub mod Report
pub mod Meaning
pub mod OneTable
pub mod Marks
pub mod FreeMarks
pub mod FormerOrder
pub mod inner
