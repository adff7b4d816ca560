-- Marked and plain programs run alike.
pub mod Counts
pub mod Alike
pub mod Trees
pub mod Levels
