-- What the contracts of the fold program cite.
pub mod Text
pub mod PutText
pub mod Printed
