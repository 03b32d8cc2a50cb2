pub mod Meetings
pub mod Unfolding
pub mod Dumped
pub mod Isomorphic
pub mod SeenNodes
pub mod Documents
pub mod DumpedText
