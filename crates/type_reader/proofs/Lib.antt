mod Texts
pub mod Every
pub mod Keys
pub mod Monotone
pub mod Table
pub mod Closing
pub mod Entries
pub mod Sweeping
pub mod Flags
pub mod Readings
pub mod Indexing
pub mod Straight
pub mod Limits
pub mod Gathered
pub mod Standing
pub mod UnionSizes
