pub mod WorkedSizes
