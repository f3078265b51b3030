pub mod Floats
pub mod Readings
