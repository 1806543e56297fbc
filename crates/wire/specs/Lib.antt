pub mod Heads
pub mod Refusals
pub mod Records
pub mod Back
pub mod Written
