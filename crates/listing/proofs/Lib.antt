pub mod Laws
pub mod Rooms
pub mod Fits
mod Examples
