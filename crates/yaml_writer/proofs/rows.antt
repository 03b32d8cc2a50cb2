pub mod RowsKeptDocuments
pub mod RowsDates
pub mod RowsTimes
pub mod RowsTypedEvents
