pub mod Trays
pub mod Inside
pub mod TrayLaws
