pub mod Grammar
pub mod Readers
pub mod Spelling
pub mod Laws
pub mod Worked
