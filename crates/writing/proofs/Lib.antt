pub mod Meeting
pub mod Stacking
pub mod Unwinding
pub mod Turning
pub mod Filling
pub mod Drawing
pub mod Whole
