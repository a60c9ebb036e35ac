mod Found
mod Rows
mod Followed
