-- What a fold of a run is, and which one is the cheapest: of trees, as a function, and of any bytes.
pub mod Optimal
pub mod Cheapest
pub mod Matches
pub mod Fewest
pub mod Verdict
pub mod Demands
pub mod OneTable
pub mod Known
