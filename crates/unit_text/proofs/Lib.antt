pub mod EditLemmas
pub mod BorderLemmas
pub mod MarkLemmas
pub mod PartLemmas
pub mod PositionLemmas
pub mod ReadingLemmas
pub mod SearchLemmas
pub mod UnitLemmas
