pub mod Encoding
pub mod Readings
pub mod Scalars
