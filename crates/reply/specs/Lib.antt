-- What the program `root` prints, for an input and for what was read of one, and what it is to put a text into a list that has room: definitions alone.
pub mod Lines
pub mod Reply
pub mod Putting
