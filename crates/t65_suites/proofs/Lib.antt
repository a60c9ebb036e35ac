mod CFunctions
mod Ends
mod Heads
mod Programs
mod Ready
mod Spared
