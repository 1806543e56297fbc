pub mod Coded
pub mod Orders
