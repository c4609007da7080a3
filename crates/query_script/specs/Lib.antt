pub mod Asks
pub mod Reasons
pub mod Replies
