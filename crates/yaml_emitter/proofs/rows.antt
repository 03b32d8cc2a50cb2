pub mod RowsKeptDocuments
