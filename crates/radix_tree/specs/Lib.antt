pub mod Split
pub mod Ranges
pub mod Shape
pub mod Table
pub mod Fit
pub mod Filling
