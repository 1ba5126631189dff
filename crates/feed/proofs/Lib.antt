pub mod Lines
pub mod Reading
pub mod Reports
pub mod Room
pub mod Turns
