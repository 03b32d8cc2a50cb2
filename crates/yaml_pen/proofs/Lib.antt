pub mod Common
pub mod Outlets
mod TakenOutput
pub mod Adding
pub mod Starting
pub mod Writing
pub mod Composing
mod Appending
pub mod StillToWrite
pub mod Cuts
pub mod NewLines
pub mod CharacterStarts
pub mod AsciiRuns
pub mod Spaces
mod TakenLists
