pub mod BaseLaws
pub mod MapLaws
pub mod ClaimLaws
