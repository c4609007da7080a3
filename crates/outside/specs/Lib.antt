pub mod Causes
pub mod Streams
pub mod Files
pub mod Fakes
