pub mod Plans
pub mod Firsts
pub mod Types
pub mod Ends
pub mod Begins
pub mod Steps
pub mod Reads
