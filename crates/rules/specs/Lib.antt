pub mod Devices
pub mod Kinds
pub mod Refusals
pub mod Slots
