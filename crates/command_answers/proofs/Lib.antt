pub mod OneSummary
pub mod SoundCourses
pub mod OneTold
pub mod AnswersAreOne
