pub mod Orders
pub mod Shelves
pub mod Tallies
pub mod Rounds
