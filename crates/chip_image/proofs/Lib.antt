mod Chips
mod Headers
