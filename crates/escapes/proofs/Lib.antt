pub mod Alike
pub mod Places
pub mod Reading
pub mod Writing
pub mod Returning
pub mod Grammar
mod Examples
