mod Computing
pub mod IndexLaws
