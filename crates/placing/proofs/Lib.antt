pub mod Passings
mod Steps
mod Placed
mod Surveys
