pub mod Alone
pub mod Cycle
pub mod GraphBytes
pub mod Pair
pub mod Service
pub mod Store
