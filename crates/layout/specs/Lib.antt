pub mod Inserter
pub mod Interleaver
pub mod Lead
pub mod Places
pub mod Standard
