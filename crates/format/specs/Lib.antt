pub mod KeyId
pub mod Suite
pub mod KeyData
pub mod Header
