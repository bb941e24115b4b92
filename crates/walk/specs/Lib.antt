-- Laws of where a parameter stands by the length rule, and of the rows from a cursor on.
pub mod Stretches
pub mod Cursors
pub mod Ahead
pub mod Steps
pub mod Rows
