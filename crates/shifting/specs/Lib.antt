pub mod Chains
pub mod Slots
pub mod Machine
pub mod Law
