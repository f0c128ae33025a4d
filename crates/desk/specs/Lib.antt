pub mod Orders
pub mod Sets
pub mod Calls
pub mod Splits
pub mod SplitLaws
pub mod OrderLaws
pub mod SetLaws
