pub mod Documents
pub mod Forms
pub mod Outlets
pub mod ValueCalls
pub mod Variants
