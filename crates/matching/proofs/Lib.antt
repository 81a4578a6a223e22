pub mod Alike
pub mod Rows
pub mod Parameters
pub mod Left
pub mod Texts
pub mod Meaning
