pub mod Crossings
pub mod Decided
mod Gathered
pub mod Marking
mod Vectors
