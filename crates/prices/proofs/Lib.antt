-- Laws of the list of repeat prices, and examples.
pub mod Entries
pub mod Examples
