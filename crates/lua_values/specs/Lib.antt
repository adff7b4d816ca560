pub mod Integers
pub mod Laws
pub mod Numerals
pub mod Sameness
pub mod Shown
pub mod Tables
pub mod Texts
pub mod Values
