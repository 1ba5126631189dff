pub mod Change
pub mod Fresh
pub mod Install
