-- The code of small programs does what the programs mean, by computation.
pub mod Agreement
pub mod Expressions
pub mod Control
pub mod Functions
pub mod Errors
