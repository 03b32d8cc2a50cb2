pub mod Cases
pub mod RowsPieces
pub mod RowsMeaning
pub mod RowEvents
pub mod RowsLayout
pub mod RowsGrammar
pub mod RowsReadFolding
pub mod RowsReaders
pub mod RowsSettings
pub mod RowsAnalysis
pub mod RowsTags
pub mod RowsEncoding
pub mod RowsBlock
pub mod RowsDouble
pub mod RowsPlain
pub mod RowsScript
pub mod RowsMeetings
mod RowsDumpedText
pub mod RowsCanonical
pub mod RowsUnfolding
mod RowsIsomorphic
mod RowsUniqueKeys
pub mod RowsTyped
pub mod RowsSpoiledTrees
pub mod StreamTrees
pub mod RowsStreamNodes
pub mod RowsStreamDocuments
pub mod RowsStreamRefused
mod RowsStreamComments
pub mod RowsTidy
pub mod RowsStreamLaw
pub mod RowsPortable
mod RowsIndentedSequences
mod RowsQuotes
mod RowsLiteralBlanks
mod RowsWrittenTexts
mod RowsSchema
mod RowsSurelyText
mod RowsJsonNumbers
mod RowsLinesAndColumns
mod RowsComments
mod RowsCommentedNodes
