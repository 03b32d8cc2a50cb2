pub mod Page
pub mod Wrote
pub mod Outlet
pub mod Encoded
pub mod Pen
pub mod Lines
pub mod Indicators
