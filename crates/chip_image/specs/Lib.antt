pub mod Chip
pub mod Layout
