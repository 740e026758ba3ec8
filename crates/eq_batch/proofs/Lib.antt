mod Rooms
mod Gathering
mod BlockByBlock
mod OneBlock
mod Summing
mod Rows
