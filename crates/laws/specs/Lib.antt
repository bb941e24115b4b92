-- Laws that the proofs of several crates cite. A reader need not believe any of them: the checker does.
-- Of tests, lists and octets:
pub mod Bools
pub mod Members
pub mod Parts
pub mod Passed
pub mod Stores
pub mod Fronts
pub mod Written
pub mod Rooms
pub mod Fields
pub mod Octet
pub mod Below
-- of one transfer parameter, up to its two laws in Leaves:
pub mod Extents
pub mod Halves
pub mod Faults
pub mod Joined
pub mod Headers
pub mod Counted
pub mod Numbers
pub mod Drawings
pub mod Orders
pub mod Leaves
pub mod Entries
pub mod Firsts
pub mod Offsets
pub mod Laid
-- of the walk over a message, and what is made of it:
pub mod Often
pub mod Walks
pub mod Steps
pub mod Plain
pub mod Filling
pub mod Runs
pub mod Finding
pub mod Found
pub mod Rows
pub mod Listed
pub mod Few
-- of places in what is written and edited:
pub mod Places
