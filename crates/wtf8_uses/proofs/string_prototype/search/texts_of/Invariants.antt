use Rattle.std.proofs.Common.{◌≡◌, map, take}
use Rattle.wtf8_uses.proofs.string_prototype.search.texts_of.Given as goal

-- the texts so far have the units of the parts so far
abbrev pub invariant-loop-part : goal.invariant-loop-part
invariant-loop-part g l = l.texts.items ≡ map (λ part. part.now) (take l.part-index l.parts)
