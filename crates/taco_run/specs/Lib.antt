pub mod Served
pub mod Requests
pub mod Headline
pub mod Replies
