mod Keys
mod Lines
