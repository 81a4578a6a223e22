pub mod Equivalences
pub mod Multisets
pub mod Orders
pub mod Pieces
pub mod Rows
pub mod Ends
pub mod Examples
