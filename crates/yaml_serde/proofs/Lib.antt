pub mod Common
pub mod Nesting
pub mod Handing
pub mod Gave
pub mod Giving
pub mod Bytes
