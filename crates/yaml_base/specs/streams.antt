pub mod StreamContent
pub mod StreamLines
pub mod StreamScalars
pub mod StreamTokens
pub mod StreamFlow
pub mod StreamNodes
pub mod StreamDocuments
pub mod StreamReader
