pub mod Sessions
pub mod Commands
pub mod Replies
pub mod Seats
pub mod Repliers
pub mod Serving
pub mod inner
