pub mod Cells
pub mod CellsOf
pub mod Levels
