use Rattle.wtf8.proofs.Common.{◌≡◌, ◌∙◌, ap, sym, subst, arith, take, UnitString, units, IsBoundary, IsFront, IsWellFormed, AreScalarTo}
use Rattle.wtf8.proofs.lemmas.strings.Positions.{cut_at}
use Rattle.wtf8.proofs.lemmas.codec.Readings.{IsWellFormed-equal_bytes, same_points}
use Rattle.wtf8.proofs.lemmas.strings.ExtendedForms.{scalar_to-front}
use Rattle.wtf8.proofs.buffers.buf.Wtf8Buf.truncate.Goals.{After-truncate}
use Rattle.wtf8.proofs.buffers.buf.Wtf8Buf.truncate.Goals as goal

items-truncate : (g : _) (c : After-truncate g) → c.truncate.new.self.items ≡ take c.args.new_len c.self.inside.bytes.items
items-truncate g c = grind arith

pub invariant_of-self-inside : goal.invariant_of-self-inside
invariant_of-self-inside g c =
    let same = ap (λ (t : UnitString). t.units) c.self.view_is in
    let cut = cut_at c.self.inside.well_formed c.args.new_len (subst (λ u. IsBoundary u c.args.new_len) (sym same) c.requires) in
    let own = c.self.inside in
    let front = scalar_to-front own.utf8_prefix.len own.utf8_prefix.len cut.front cut.back
    (subst (AreScalarTo own.utf8_prefix.len) cut.points own.scalar_prefix) (omega arith) in
    let prefix = c.after_truncate-self-inside in
    let now : IsWellFormed c.truncate.new.self.items =
    IsWellFormed-equal_bytes cut.before (items-truncate g (goal.at.invariant_of-self-inside g c).After-truncate) in
    (now, (subst (AreScalarTo prefix.result.len) (sym cut.before_points) (prefix.ensures cut.front cut.splits.front_len front), tt))

pub returns : goal.returns
returns g c =
    let items = items-truncate g (goal.at.returns g c).After-truncate in
    let same = ap (λ (t : UnitString). t.units) c.self.view_is in
    let cut = cut_at c.self.inside.well_formed c.args.new_len (subst (λ u. IsBoundary u c.args.new_len) (sym same) c.requires) in
    let kept = ap units (sym (same_points c.self-1.given.0 cut.before items ∙ cut.before_points)) in
    record {
      units = subst (λ u. IsFront u c.args.new_len (units c.self-1.given.0.points)) same
          (record { front = cut.front; back = cut.back; splits = cut.splits; same_units = kept });
      bytes = items ∙ ap (λ (t : UnitString). take c.args.new_len t.bytes) c.self.view_is;
      capacity = c.truncate.ensures.capacity ∙ ap (λ (t : UnitString). t.capacity) c.self.view_is;
    }
