pub mod Asked
pub mod Changed
pub mod Framed
pub mod Waiting
