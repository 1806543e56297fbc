pub mod Letters
pub mod Codes
pub mod Bytes
pub mod Spelling
