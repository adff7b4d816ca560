pub mod Locals
pub mod Work
pub mod Pieces
pub mod Modules
