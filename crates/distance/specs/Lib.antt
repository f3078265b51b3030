pub mod Nearest
pub mod Apart
pub mod Trellis
