pub mod Passing
pub mod Standings
pub mod Placing
