pub mod Determined
pub mod Substitution
pub mod Rounds
pub mod Widths
