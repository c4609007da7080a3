pub mod Overlaps
pub mod Nearest
pub mod NearestOf
pub mod Walks
pub mod Nearing
