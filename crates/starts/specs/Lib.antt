pub mod Near
pub mod Cell
