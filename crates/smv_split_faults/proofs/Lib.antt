mod AnswerLaws
mod WaitingLaws
mod WalkLaws
mod NoneLeft
