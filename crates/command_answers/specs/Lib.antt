pub mod Courses
pub mod AnswerLaws
