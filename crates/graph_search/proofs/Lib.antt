pub mod SearchLaws
pub mod ReachedLaws
pub mod ReverseLaws
