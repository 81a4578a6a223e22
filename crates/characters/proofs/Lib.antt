pub mod Units
pub mod Leading
pub mod Cuts
pub mod Utf8
pub mod Quick
mod Examples
