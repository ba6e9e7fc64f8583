pub mod Blocks
pub mod CountedParts
pub mod FullBlocks
pub mod PackedWords
pub mod UnitCuts
pub mod UnitEnds
pub mod UnitLanes
pub mod UnitMarks
