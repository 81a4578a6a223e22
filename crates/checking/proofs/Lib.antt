pub mod Chains
pub mod Passing
pub mod Components
pub mod Whole
