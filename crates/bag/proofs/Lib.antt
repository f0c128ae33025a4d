pub mod Lists
pub mod Records
pub mod Leaving
pub mod Frames
