pub mod Checks
pub mod Front
