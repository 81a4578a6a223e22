pub mod Answers
pub mod Matched
pub mod Tops
