pub mod Reading
pub mod Runs
pub mod Walks
pub mod Lawful
