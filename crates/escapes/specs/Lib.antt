pub mod Text
pub mod Grammar
pub mod Answers
pub mod Loose
pub mod Turns
