pub mod Borders
pub mod Search
