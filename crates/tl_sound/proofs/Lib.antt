mod Keeps
mod KeepsTrees
mod KeepsLevels
mod Late
mod Untyped
mod Listed
mod Runs
mod Values
mod Locals
mod Forms
mod Join
pub mod Sound
mod Alike
