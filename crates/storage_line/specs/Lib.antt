pub mod StorageLines
pub mod Below
