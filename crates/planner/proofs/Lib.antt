pub mod AnswerBounds
