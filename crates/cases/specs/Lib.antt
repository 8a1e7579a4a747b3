pub mod Cases
pub mod Failures
