pub mod Signs
pub mod Seams
pub mod Parts
pub mod Parted
pub mod Letters
