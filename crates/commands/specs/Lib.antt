pub mod Hexadecimals
pub mod Grammar
pub mod Meaning
pub mod Reading
pub mod Outputs
pub mod Answers
