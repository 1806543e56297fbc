pub mod Checking
pub mod Walking
pub mod Buckets
pub mod Lengthy
pub mod Downward
pub mod Dispatched
pub mod Accepting
pub mod Reread
