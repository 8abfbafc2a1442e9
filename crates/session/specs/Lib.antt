pub mod Replies
pub mod Serving
pub mod Session
pub mod Steady
pub mod Typed
