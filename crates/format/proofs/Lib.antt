pub mod Determined
pub mod Headers
pub mod KeyIds
pub mod Room
pub mod Soundness
pub mod Suites
pub mod Written
