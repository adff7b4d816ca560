pub mod Tested
pub mod Steps
pub mod Parts
pub mod Made
pub mod Combined
pub mod Loops
