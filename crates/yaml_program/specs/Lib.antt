pub mod Faults
pub mod Messages
pub mod Options
pub mod Conversions
pub mod Bounds
pub mod Streams
pub mod Differences
