pub mod Pieces
pub mod Strict
pub mod Repository
pub mod Answers
