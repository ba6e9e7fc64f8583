pub mod Marks
pub mod Positions
pub mod Reading
pub mod Search
pub mod Types
pub mod Written
pub mod private
