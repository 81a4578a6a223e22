pub mod Split
pub mod Rule
pub mod Sound
mod Examples
