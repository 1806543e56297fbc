pub mod Putting
pub mod Labels
pub mod Reading
