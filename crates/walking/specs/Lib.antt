pub mod Walk
pub mod Totals
pub mod Places
