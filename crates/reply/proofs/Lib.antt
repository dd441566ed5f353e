pub mod Putting
pub mod Replies
pub mod Lengths
pub mod Held
pub mod Cut
