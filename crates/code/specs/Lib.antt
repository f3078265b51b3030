pub mod Coder
pub mod Register
