pub mod Answers
pub mod Lent
pub mod InTurn
pub mod NewTables
