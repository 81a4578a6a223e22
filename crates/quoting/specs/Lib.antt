pub mod Quoting
pub mod Answers
