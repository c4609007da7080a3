pub mod Worlds
pub mod Fans
pub mod Live
pub mod Marks
pub mod WaysUp
pub mod Kept
pub mod Grouping
