mod Differing
mod Doing
mod Headings
mod LineLemmas
mod Parts
mod Portable
mod Telling
pub mod FilesInTurn
pub mod Refusals
