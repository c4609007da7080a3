pub mod DeskAnswers
pub mod Ends
pub mod Stops
pub mod OpenedWords
mod Examples
mod ReportExamples
pub mod SumSteps
pub mod AskedInTurn
pub mod Telling
pub mod StageEnds
