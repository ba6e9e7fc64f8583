mod Outputs
mod Digits
mod Parsing
mod Splitting
