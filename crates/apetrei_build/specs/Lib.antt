pub mod Parents
pub mod Measures
pub mod Neighbours
