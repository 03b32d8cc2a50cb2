mod CanonicalTexts
mod Files
mod Parts
mod Refusals
mod Texts
