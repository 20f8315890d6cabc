pub mod StorageLaws
pub mod BelowLaws
