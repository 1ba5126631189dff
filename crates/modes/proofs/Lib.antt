pub mod Blocks
pub mod Cuts
pub mod Gamma
pub mod Widths
