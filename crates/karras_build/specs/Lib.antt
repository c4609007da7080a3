pub mod Spans
pub mod Packing
pub mod Reaching
pub mod Parts
pub mod Halves
pub mod Linking
