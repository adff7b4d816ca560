pub mod Configurations
pub mod Faithful
pub mod Generated
pub mod Instructions
pub mod Listings
pub mod Shapes
pub mod Sizes
pub mod Steps
