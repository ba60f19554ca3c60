pub mod Given
pub mod Plans
pub mod Texts
pub mod Named
