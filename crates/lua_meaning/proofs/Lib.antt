mod Marks
pub mod Rows
