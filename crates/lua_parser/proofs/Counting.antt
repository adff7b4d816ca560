pub mod Types
pub mod Steps
pub mod Reads
pub mod Moves
pub mod Labels
pub mod Loops
pub mod Limits
pub mod Rises
