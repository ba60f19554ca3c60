pub mod Lists
pub mod NoFaults
mod FamiliesFound
mod Relation
mod Boxes
mod Variables
mod Expressions
mod Values
mod Statements
mod Only
mod Families
mod Constants
mod Enumerations
mod Connections
mod Entries
mod Kinded
