pub mod LeftSides
pub mod Held
pub mod Clashes
pub mod Links
pub mod Walks
pub mod Classes
pub mod Shared
