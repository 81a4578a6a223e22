pub mod Laws
pub mod Rule
pub mod Gathered
pub mod Fronts
pub mod Nested
pub mod Levels
mod Examples
