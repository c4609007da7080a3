pub mod Listing
pub mod Shapes
pub mod Stale
pub mod Subtrees
pub mod Counts
pub mod Putting
