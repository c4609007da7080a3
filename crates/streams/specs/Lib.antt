pub mod Loads
pub mod Owed
pub mod Answers
pub mod Taken
pub mod Stops
