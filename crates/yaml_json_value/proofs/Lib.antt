pub mod Depths
pub mod Integers
pub mod Running
pub mod Steps
pub mod Taking
pub mod Checked
pub mod Untyping
pub mod SeenRests
