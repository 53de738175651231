mod Losses
mod Running
