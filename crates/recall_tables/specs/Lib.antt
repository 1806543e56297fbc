pub mod Finite
pub mod Slots
