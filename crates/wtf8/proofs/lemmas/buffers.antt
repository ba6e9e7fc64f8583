pub mod UnitEdits
