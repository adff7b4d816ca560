pub mod Names
pub mod formers
pub mod Lending
