-- What the proofs of the conversions share.
pub mod Forms
pub mod Conversions
