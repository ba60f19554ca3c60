pub mod WorldLaws
