pub mod OwnerLaws
pub mod StatementLaws
pub mod ItemLaws
pub mod GroupLaws
pub mod FirstLaws
pub mod DefinitionLaws
