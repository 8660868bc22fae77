-- What the contracts of `harness` cite.
pub mod Lent
