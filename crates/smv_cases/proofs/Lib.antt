pub mod Lists
pub mod Grows
pub mod RuleLaws
pub mod Gathering
pub mod SlotLaws
pub mod TypeLaws
