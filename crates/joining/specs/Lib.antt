pub mod Rules
pub mod Recalled
pub mod Pairs
pub mod Frames
pub mod Walks
