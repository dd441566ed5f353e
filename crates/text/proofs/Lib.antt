pub mod Texts
pub mod Reading
pub mod Requests
pub mod Asking
pub mod Examples
pub mod Spelling
pub mod Writing
