-- What the functions of the conversions promise one another: their contracts cite the format's definitions alone.
pub mod inner
