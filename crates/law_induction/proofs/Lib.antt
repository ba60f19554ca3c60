pub mod RenamedOutcomes
pub mod Inductions
pub mod Trees
pub mod WorkedTexts
