pub mod Entries
pub mod Floor
pub mod Marks
pub mod Accept
pub mod Undamaged
pub mod Steps
pub mod Determined
pub mod Starts
