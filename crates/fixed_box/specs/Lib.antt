pub mod World
pub mod Boxes
pub mod Extent
pub mod Centre
pub mod Corners
