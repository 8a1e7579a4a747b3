pub mod Turned
pub mod Adds
pub mod Drops
pub mod Writes
pub mod Clears
