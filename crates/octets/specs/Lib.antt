-- Laws of what is written over octets, and of a stretch of a message replaced in its buffer.
pub mod Put
pub mod Copied
pub mod Splice
