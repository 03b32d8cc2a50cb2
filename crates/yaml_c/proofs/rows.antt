pub mod RowsEvents
pub mod RowsNodes
