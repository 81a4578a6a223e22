pub mod Blanks
pub mod OnePass
pub mod Folds
pub mod Laws
pub mod Pieces
