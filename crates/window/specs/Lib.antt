pub mod Counters
pub mod Entry
pub mod Window
