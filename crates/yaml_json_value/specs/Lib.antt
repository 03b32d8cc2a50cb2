pub mod Rests
pub mod Standing
pub mod TextNames
pub mod Typed
pub mod Untyped
pub mod Walked
pub mod Written
