mod Ends
pub mod Faithful
pub mod Formed
mod Rows
