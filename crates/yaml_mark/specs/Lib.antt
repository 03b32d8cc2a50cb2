pub mod Laws
pub mod Spelled
pub mod Escaping
pub mod Names
pub mod Index
