pub mod Met
pub mod Walks
pub mod Records
pub mod Writes
