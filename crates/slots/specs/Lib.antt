pub mod Table
pub mod Record
