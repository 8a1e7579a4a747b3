mod Tickets
mod Hands
mod Walking
mod Starts
