mod ShareLaws
mod EdgeLaws
mod PathLaws
mod FoundLaws
