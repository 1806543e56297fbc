pub mod Paths
pub mod Stages
pub mod Units
pub mod UnitsLemmas
pub mod Spelling
pub mod Decimals
