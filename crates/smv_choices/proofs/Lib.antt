pub mod PartLaws
pub mod FaultLaws
pub mod AnswerLaws
pub mod StepLaws
pub mod KnownLaws
pub mod SeenLaws
