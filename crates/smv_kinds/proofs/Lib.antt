pub mod ValueLaws
pub mod StatementLaws
pub mod ConstantLaws
pub mod ArgumentLaws
pub mod ItemLaws
pub mod TopLaws
