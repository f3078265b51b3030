mod Made
pub mod Pairs
pub mod Period
mod Strange
