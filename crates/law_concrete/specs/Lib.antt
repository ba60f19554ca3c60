pub mod Concrete
pub mod Runs
pub mod Sizes
pub mod Laws
