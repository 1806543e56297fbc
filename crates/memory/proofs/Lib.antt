pub mod Gathers
pub mod Keeping
pub mod Looks
pub mod Marking
mod Stacking
pub mod Reaching
pub mod Spreading
pub mod Standing
pub mod Tallying
