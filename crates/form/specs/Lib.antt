pub mod Form
pub mod Found
pub mod Left
