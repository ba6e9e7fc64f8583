-- Laws of iterators over code points: what they yield, by what they have left.
use Rattle.std.specs.Prelude.{◌≡◌, ℕ, List, Option, take, drop, ⊤}
use Rattle.std.specs.Iterator.{Drains, DrainsIf, YieldsFirstBy}
use Rattle.std.specs.Iterator.Adapters.{take_source, take_count, take_steps, skip_source, skip_count, skip_steps}
use Rattle.std.specs.declared.iter.Take.{Take}
use Rattle.std.specs.declared.iter.Skip.{Skip}
use Rattle.wtf8.specs.CodePoint.{number, numbers}
use Rattle.wtf8.specs.declared.codec.code_point.CodePoint.{CodePoint}

-- A step of an iterator over code points, seen as the values left: it yields the first, or `None` if there is none.
abbrev pub StepsPoint : List ℕ → Option CodePoint → List ℕ → Type 0
StepsPoint = YieldsFirstBy number (λ points. points)

-- An iterator over code points yields, until `None`, exactly what it had left.
abbrev pub DrainedPointsAreLeft : Type 0
DrainedPointsAreLeft = (left : List ℕ) (points : List CodePoint) → Drains StepsPoint left points → numbers points ≡ left

-- `take(n)` of an iterator over code points yields, until `None`, the first `n` that the iterator had left.
abbrev pub DrainedPointsAreTaken : Type 0
DrainedPointsAreTaken = (s : Take (List ℕ)) (points : List CodePoint) → Drains (take_steps StepsPoint) s points
    → numbers points ≡ take (take_count s) (take_source s)

-- `skip(n)` of an iterator over code points yields, until `None`, what the iterator had left after the first `n`.
abbrev pub DrainedPointsAreAfterSkip : Type 0
DrainedPointsAreAfterSkip = (s : Skip (List ℕ)) (points : List CodePoint) → Drains (skip_steps StepsPoint) s points
    → numbers points ≡ drop (skip_count s) (skip_source s)

-- A collection made of an iterator over code points has exactly what the iterator had left.
abbrev pub CollectedPointsAreLeft : Type 0
CollectedPointsAreLeft = (left : List ℕ) (points : List CodePoint) → DrainsIf StepsPoint ⊤ left points → numbers points ≡ left

-- A collection made of `take(n)` of an iterator over code points has the first `n` that the iterator had left.
abbrev pub CollectedPointsAreTaken : Type 0
CollectedPointsAreTaken = (s : Take (List ℕ)) (points : List CodePoint) → DrainsIf (take_steps StepsPoint) ⊤ s points
    → numbers points ≡ take (take_count s) (take_source s)

-- A collection made of `skip(n)` of an iterator over code points has what the iterator had left after the first `n`.
abbrev pub CollectedPointsAreAfterSkip : Type 0
CollectedPointsAreAfterSkip = (s : Skip (List ℕ)) (points : List CodePoint) → DrainsIf (skip_steps StepsPoint) ⊤ s points
    → numbers points ≡ drop (skip_count s) (skip_source s)
