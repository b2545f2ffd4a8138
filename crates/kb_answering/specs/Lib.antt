pub mod Answers
pub mod NamedTexts
pub mod AnswerLaws
