-- The halves of surrogate pairs at the ends of a slice.
use Rattle.std.specs.Prelude.{IfSome}
use Rattle.wtf8.specs.Unicode.{IsLead, IsTrail}
use Rattle.wtf8.specs.declared.units.slices.UnitSlice.{UnitSlice}

-- The half at a slice's start, if any, is a trail surrogate, and that at its end a lead (Unicode 3.8, "Surrogates").
pub record AreHalves (s : UnitSlice) : Type 0 where
  pub trail : IfSome s.trail IsTrail
  pub lead : IfSome s.lead IsLead
