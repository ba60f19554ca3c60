pub mod NumberLaws
pub mod NarrowLaws
pub mod BoundLaws
pub mod ConstantLaws
