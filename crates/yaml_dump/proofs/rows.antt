pub mod RowsKeptDocuments
pub mod RowsComposing
