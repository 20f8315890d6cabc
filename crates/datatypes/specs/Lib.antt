pub mod Places
pub mod At
pub mod PhysicalPlaces
pub mod Dtypes
pub mod Physical
