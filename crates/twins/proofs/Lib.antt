pub mod Pairs
pub mod Front
pub mod Answers
pub mod Laws
mod Examples
