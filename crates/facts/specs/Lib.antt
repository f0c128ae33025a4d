pub mod Facts
pub mod Packing
pub mod Record
pub mod Records
pub mod Maps
pub mod Packings
