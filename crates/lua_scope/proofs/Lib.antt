pub mod Names
pub mod Places
pub mod Crossing
pub mod Declared
pub mod Required
pub mod Small
