pub mod WritingRule
pub mod Views
