pub mod Pens
mod Examples
