use Rattle.std.proofs.Common.{◌++◌, ◌∙◌, ap, sym, arith, length, append-nil}
use Rattle.std.proofs.lemmas.List.{nil_from_length}
use Rattle.wtf8.proofs.lemmas.codec.Readings.{lists_have_lengths}
use Rattle.wtf8.specs.View.{view_units}
use Rattle.unit_text.proofs.search.pattern_of.Goals as goal

pub returns-clause-count : goal.returns-clause-count
returns-clause-count c =
    let none = c.from_str.result.well_formed in
    let lengths = lists_have_lengths none.points in
    omega (arith, lengths.units_least, lengths.units_most, ap length (none.encoded ∙ c.from_str.ensures.bytes))

pub returns-clause-units : goal.returns-clause-units
returns-clause-units c =
    ap (λ l. c.args.units.now ++ l) (nil_from_length (view_units c.from_str.result) (sym (returns-clause-count c)))
    ∙ append-nil c.args.units.now
