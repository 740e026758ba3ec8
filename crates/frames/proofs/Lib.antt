mod Keeping
mod Gathering
mod Starting
mod Turns
