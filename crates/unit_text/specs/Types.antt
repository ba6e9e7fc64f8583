-- The public types, under names that stay when a source file moves.
use Rattle.unit_text.specs.declared.indexed.IndexedBuf as indexed
use Rattle.unit_text.specs.declared.text.UnitText as text

-- A buffer that keeps its number of units and marks, whose allocator is of the type that it is given.
abbrev pub IndexedBuf : Type 0 → Type 0
IndexedBuf A = indexed.IndexedBuf A

-- A text indexed by units, whose allocator is of the type that it is given.
abbrev pub UnitText : Type 0 → Type 0
UnitText A = text.UnitText A
