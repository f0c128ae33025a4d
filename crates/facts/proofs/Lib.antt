pub mod Fields
pub mod Sets
