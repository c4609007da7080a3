pub mod Lines
pub mod Joins
pub mod Numbers
pub mod ThreeNumbers
pub mod Cuts
pub mod Parts
pub mod PlainLines
pub mod Halves
