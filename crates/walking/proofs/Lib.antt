pub mod Search
pub mod Lockstep
pub mod Tallies
pub mod Windows
pub mod Walks
pub mod Counting
pub mod Found
pub mod Siblings
pub mod Sums
pub mod Sizes
mod Examples
pub mod Own
pub mod Rows
pub mod Along
