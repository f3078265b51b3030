pub mod Followed
pub mod Plays
pub mod Law
