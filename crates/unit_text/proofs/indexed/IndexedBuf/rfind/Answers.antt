use Rattle.std.proofs.Common.{◌≡◌, ◌∙◌, ◌<◌, refl, sym, ap, subst, arith, length, take, drop}
use Rattle.std.proofs.lemmas.Bool.{false≢true}
use Rattle.wtf8.proofs.lemmas.codec.Readings.{lists_have_lengths}
use Rattle.unit_text.proofs.SearchLemmas.{some_in}
use Rattle.unit_text.proofs.indexed.IndexedBuf.rfind.Goals as goal

-- no units occur everywhere
pub last_of_string-requires-clause-some : goal.last_of_string-requires-clause-some
last_of_string-requires-clause-some g c =
    let units = c.args.other.now.units in
    let rest = drop c.min-begin.result c.args.self.now.units in
    let form = c.as_wtf8.result.well_formed in
    let some : 0 < length units =
    some_in units (λ e. false≢true (sym c.if-starts_with_at.false
    ∙ c.starts_with_at.ensures.1 (subst (λ u. take (length u) rest ≡ u) (sym e) refl))) in
    omega (arith, some, ap length c.as_wtf8.ensures.units, (lists_have_lengths form.points).units_least, (lists_have_lengths form.points).units_most, ap length form.encoded)
