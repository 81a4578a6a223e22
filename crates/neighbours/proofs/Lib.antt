pub mod Counting
pub mod Answers
pub mod Laws
