pub mod Dump
pub mod Fault
pub mod Known
pub mod Lines
pub mod Parts
pub mod Word
