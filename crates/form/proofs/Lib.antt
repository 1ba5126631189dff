pub mod Behind
pub mod Chains
pub mod Determined
pub mod Stretches
pub mod Texts
