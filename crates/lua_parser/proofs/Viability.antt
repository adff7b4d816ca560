pub mod Means
pub mod Plans
pub mod Types
pub mod Exprs
pub mod Stats
pub mod Closing
pub mod Runs
