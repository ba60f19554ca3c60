pub mod Held
pub mod Ranks
pub mod Cells
pub mod Numbers
pub mod Bases
pub mod Rows
pub mod Edges
pub mod Order
