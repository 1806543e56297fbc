pub mod Weights
pub mod Splits
pub mod Growing
pub mod Coupling
pub mod Stacks
pub mod Turning
pub mod Landing
