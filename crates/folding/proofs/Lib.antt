pub mod Strict
pub mod Pieces
pub mod Repository
pub mod Answers
