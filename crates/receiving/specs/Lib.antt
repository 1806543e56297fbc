pub mod Checks
pub mod Reads
pub mod Walks
pub mod Tables
pub mod Lengths
pub mod Layings
pub mod Receives
pub mod Statements
