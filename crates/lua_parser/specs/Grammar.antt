pub mod Levels
pub mod Types
pub mod Syntax
pub mod Fault
pub mod Heights
pub mod Depth
pub mod TooDeep
