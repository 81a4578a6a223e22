pub mod All
pub mod Limit
