pub mod Conversions
pub mod Statuses
