pub mod Past
pub mod Led
pub mod Calls
pub mod Serving
