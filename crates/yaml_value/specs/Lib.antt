pub mod SeenValues
pub mod Walk
pub mod WalkTexts
pub mod OpenLevels
pub mod Weights
