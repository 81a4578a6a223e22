pub mod Tables
pub mod Stacks
pub mod Parameters
pub mod Checks
pub mod Passing
pub mod Lines
mod Examples
