pub mod Arithmetic
pub mod Border
pub mod Reading
pub mod Tables
pub mod Words
