pub mod Labels
pub mod Count
pub mod Choices
pub mod Most
pub mod Verdict
