-- Small programs and what they do, by computation.
pub mod Shorthand
pub mod Expressions
pub mod Control
pub mod Functions
pub mod Errors
