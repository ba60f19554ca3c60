pub mod Answers
pub mod OneDue
pub mod OneFault
pub mod OneReport
mod Documents
mod Confirmed
pub mod Asked
pub mod Statuses
mod Own
mod Inducted
mod Formulas
