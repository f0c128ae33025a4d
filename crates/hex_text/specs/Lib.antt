pub mod Reader
pub mod Meaning
pub mod Bytes
pub mod Laws
