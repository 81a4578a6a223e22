pub mod Laws
pub mod Unfolds
pub mod Pair
mod NewTables
mod Examples
