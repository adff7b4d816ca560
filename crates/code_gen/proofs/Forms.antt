-- What each form adds.
pub mod Expressions
pub mod Statements
pub mod Loops
pub mod Functions
pub mod Numbers
