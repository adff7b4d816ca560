-- The code of a program is well formed.
pub mod Slots
pub mod Pieces
pub mod Scopes
pub mod Expressions
pub mod Locals
pub mod Statements
pub mod Functions
pub mod Programs
