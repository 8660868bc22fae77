-- What the unroller's functions promise one another: its contract cites the format's definitions alone.
pub mod inner
