pub mod Gaps
pub mod Places
pub mod Writes
