pub mod Text
pub mod Reading
pub mod Found
pub mod Written
