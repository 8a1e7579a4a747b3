mod Firsts
mod Joins
