pub mod Numbers
pub mod Modes
