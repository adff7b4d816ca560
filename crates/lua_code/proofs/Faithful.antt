-- The code of a program has its meaning.
pub mod Lists
pub mod Lengths
pub mod Agreement
pub mod Names
pub mod Expressions
pub mod Debts
pub mod Statements
pub mod Levels
