-- What the names of a module mean (Lua 5.3 manual, sections 3.2, 3.3 and 3.5): what its text says of names, in order of place, and what each of them means there.
pub mod Events
pub mod Library
pub mod Places
pub mod Binding
pub mod Trees
pub mod Resolved
pub mod Lexical
