pub mod Asking
pub mod Delivering
pub mod Endings
pub mod Once
pub mod Phases
pub mod Serving
pub mod Soundness
