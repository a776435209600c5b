mod Counts
mod Exploring
