pub mod AsTwo
pub mod Bounds
pub mod Changes
pub mod Fresh
pub mod Installs
pub mod Outcomes
pub mod Removing
pub mod Stretches
