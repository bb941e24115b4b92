-- The walks over rows, the tables while they are stored, and the rows of a connection order from a cursor on.
pub mod Walks
pub mod Tables
pub mod Orders
