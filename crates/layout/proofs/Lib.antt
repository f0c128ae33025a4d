pub mod Sets
pub mod Fits
pub mod Exact
pub mod Faults
pub mod Completions
