pub mod Outcomes
pub mod Records
