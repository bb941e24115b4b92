-- Theorems about the definitions of document 01: reading and layout undo one another, and so do reading and writing; and what an edit
-- leaves. Beside them: a record's image, read, is the record; charging information and its fields give one another back; and so do the
-- contents of E0 and the order that they say, whose rows add up to them and are at most five; and what the place of a 13 means.
pub mod Lists
pub mod Trails
pub mod Counts
pub mod Lengths
pub mod Steps
pub mod Transfers
pub mod Commons
pub mod Records
pub mod Messages
pub mod Layouts
pub mod Rounds
pub mod Views
pub mod Images
pub mod Writings
pub mod ImageWritings
pub mod Named
pub mod Parted
pub mod Places
pub mod Reasons
pub mod Edits
pub mod Buffers
pub mod Splices
pub mod Undone
pub mod Listings
pub mod Finds
pub mod Headed
pub mod InPlace
pub mod Charged
pub mod Ordered
pub mod Carried
pub mod Shown
pub mod Profiles
