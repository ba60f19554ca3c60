pub mod Arrangements
pub mod ArrangedLists
pub mod Orders
pub mod Laws
pub mod Worked
pub mod Tries
