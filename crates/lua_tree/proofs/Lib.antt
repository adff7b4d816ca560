pub mod Heights
pub mod Lexical
pub mod LexicalTrees
pub mod Library
pub mod Named
pub mod Views
