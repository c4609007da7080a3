pub mod LineFaults
pub mod WordsBefore
pub mod SpacedNumbers
mod Examples
