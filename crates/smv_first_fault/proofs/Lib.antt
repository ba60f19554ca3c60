pub mod FirstLaws
pub mod LeastLaws
