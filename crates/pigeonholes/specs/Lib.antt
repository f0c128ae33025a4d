pub mod Holes
pub mod HoleLaws
