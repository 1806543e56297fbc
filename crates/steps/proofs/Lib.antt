pub mod Decimals
mod Examples
pub mod Laying
pub mod Texts
pub mod Turns
