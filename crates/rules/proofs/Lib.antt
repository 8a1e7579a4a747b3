pub mod Meeting
pub mod Records
pub mod Searches
