pub mod Refusals
pub mod Records
pub mod Leaving
pub mod Held
