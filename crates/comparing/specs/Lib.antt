pub mod Multisets
pub mod Orders
pub mod Pieces
pub mod Runs
