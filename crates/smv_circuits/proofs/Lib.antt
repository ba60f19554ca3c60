pub mod Values
pub mod Adds
pub mod WalkLaws
pub mod FrameLaws
pub mod FileLaws
