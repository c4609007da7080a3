pub mod Runs
pub mod Lengths
pub mod Powers
pub mod Floors
pub mod Scales
pub mod Caps
pub mod Words
pub mod LeadingWords
pub mod Wholes
mod Examples
