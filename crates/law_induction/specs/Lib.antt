pub mod Renamed
pub mod Laws
pub mod Strengthened
pub mod WorkedTexts
