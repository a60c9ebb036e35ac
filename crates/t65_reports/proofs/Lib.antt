mod Joined
mod RowText
mod Walks
