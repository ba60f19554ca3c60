pub mod Readable
pub mod TokenLaws
pub mod Aside
pub mod SpellingLaws
pub mod Again
