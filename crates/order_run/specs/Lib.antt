pub mod Lines
pub mod Running
pub mod Calling
