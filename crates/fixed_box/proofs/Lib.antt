pub mod Order
pub mod ByCorners
pub mod LeastBoxes
pub mod Extents
pub mod InTheWorld
pub mod MeetingTest
