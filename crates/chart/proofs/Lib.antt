pub mod Firsts
pub mod Lowest
pub mod Makes
pub mod Fits
pub mod Judged
pub mod Reading
