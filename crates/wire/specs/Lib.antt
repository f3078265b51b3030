pub mod Homes
pub mod Wire
