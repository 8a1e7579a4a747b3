pub mod Lawed
mod Serves
