pub mod Edges
pub mod Rules
pub mod Range
pub mod Judge
pub mod Refusals
pub mod Law
pub mod Samples
