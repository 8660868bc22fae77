-- The list of repeat prices.
pub mod Prices
