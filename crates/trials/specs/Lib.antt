pub mod Homes
pub mod Turned
