pub mod Subroutine
