pub mod Firsts
pub mod Matching
