pub mod Rows
pub mod TableRule
pub mod Trees
pub mod Lent
pub mod Fronts
pub mod Sizes
