mod Files
mod Refusals
