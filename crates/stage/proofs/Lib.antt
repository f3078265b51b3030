pub mod Answers
pub mod Homes
pub mod Leaving
pub mod Markers
