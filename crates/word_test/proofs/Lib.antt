mod Facts
mod Read
mod Walk
