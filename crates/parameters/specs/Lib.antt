pub mod Values
pub mod Parameter
pub mod Parameters
