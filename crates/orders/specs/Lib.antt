pub mod Layout
pub mod Orders
