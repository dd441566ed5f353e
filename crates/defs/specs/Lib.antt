-- What a reader must believe, written from the scope document and not from the Rust: definitions alone.
pub mod Kinds
pub mod Roots
pub mod Tables
pub mod Starts
pub mod Cells
pub mod Answers
pub mod Parts
pub mod Refusals
pub mod Marked
pub mod Rebuild
