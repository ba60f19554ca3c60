pub mod EndLaws
pub mod Standing
