-- How tight each promise is: two answers that keep it are equal, it is kept by the right numbers alone, and wrong programs break it.
pub mod Unique
pub mod Told
pub mod Numbers
pub mod Wrong
pub mod WrongRows
pub mod WrongClasses
pub mod WrongPacked
pub mod WrongCharging
pub mod WrongOrders
pub mod WrongCarriers
pub mod WrongProfile
pub mod Constants
