pub mod Decimals
pub mod Refusals
pub mod Texts
