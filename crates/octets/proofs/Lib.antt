pub mod Bools
pub mod Lists
pub mod Laid
pub mod Writing
pub mod Runs
pub mod Hits
pub mod Numbers
pub mod Words
pub mod Every
pub mod Keys
pub mod Answers
mod Examples
