pub mod Batch
pub mod Outcome
