-- What a decimal text is, what reading and writing one gives, and what a good request is: definitions alone.
pub mod Decimal
pub mod Reading
pub mod Writing
pub mod Request
pub mod Examples
