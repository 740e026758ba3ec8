mod Putting
mod Joining
mod Summing
