pub mod AtMostOne
mod Built
mod ByTest
pub mod ConflictLaws
pub mod Exchanged
pub mod NeverEmpty
pub mod Symmetry
mod WorkedConflicts
mod WorkedDesigns
mod WorkedExpressions
mod WorkedFlat
mod WorkedRuns
mod WorkedSound
mod WorkedStatements
pub mod Concerned
pub mod ExchangedFlat
