pub mod Costs
pub mod Largest
pub mod Going
pub mod Answers
pub mod Bounds
