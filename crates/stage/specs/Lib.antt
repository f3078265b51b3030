pub mod Elements
pub mod Marked
pub mod Meaning
pub mod OneOfTwo
pub mod Piled
