pub mod State
pub mod Held
pub mod Reading
pub mod History
