pub mod Held
pub mod Lint
pub mod Lines
pub mod Marks
pub mod Roles
pub mod Signals
pub mod Strays
pub mod Truth
