pub mod Unfold
pub mod OnePass
pub mod Folds
pub mod Parts
