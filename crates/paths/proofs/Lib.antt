pub mod Seeing
pub mod Leading
pub mod Along
pub mod Descending
pub mod Growing
pub mod Unwinding
