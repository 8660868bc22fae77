-- The table and the listing of siblings.
pub mod Keys
pub mod Table
pub mod Listing
pub mod Used
pub mod Nodes
