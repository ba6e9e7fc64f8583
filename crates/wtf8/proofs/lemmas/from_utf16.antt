pub mod Transcode
pub mod Decoding
pub mod PackedUnits
pub mod ShuffleTable
pub mod Kernel
pub mod Padded
pub mod EncodedLen
pub mod Front
