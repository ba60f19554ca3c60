pub mod PlaceLaws
pub mod FormLaws
pub mod PathLaws
pub mod OwnLaws
pub mod ScopeLaws
pub mod ListLaws
pub mod OwnedLaws
