pub mod Height
pub mod Names
pub mod Places
pub mod Plain
pub mod Scopes
pub mod Tree
pub mod View
