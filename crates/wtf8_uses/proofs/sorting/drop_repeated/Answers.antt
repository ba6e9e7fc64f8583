use Rattle.std.proofs.Common.{ap, ◌∙◌}
use Rattle.std.proofs.lemmas.List.Filters.{dedup_is}
use Rattle.std.proofs.lemmas.List.Kept.{IsStrictlySortedBy-dedup}
use Rattle.std.specs.Cmp.{on_total}
use Rattle.std.specs.Cmp.Lexicographic.{nat_list_cmp_total, texts_ties}
use Rattle.std.specs.Ordering.{is_eq}
use Rattle.wtf8.specs.UnitString.{UnitString}
use Rattle.wtf8_uses.specs.Numbered.{units_of_strings}
use Rattle.wtf8_uses.proofs.DedupLemmas.{slice_cmp-bytes_as_points, units-dedup}
use Rattle.wtf8_uses.proofs.sorting.drop_repeated.Goals as goal

pub returns-clause-once : goal.returns-clause-once
returns-clause-once g c =
    ap units_of_strings (dedup_is _ _ _ c.dedup.ensures.filtered) ∙ units-dedup c.law_equal_strings.ensures.buffers c.args.strings.now.items

pub returns-clause-sorted : goal.returns-clause-sorted
returns-clause-sorted g c = λ sorted.
    let ties = λ (s : UnitString) (t : UnitString). texts_ties s.bytes t.bytes
    ∙ ap is_eq (slice_cmp-bytes_as_points c.law_byte_order.ensures.compares s t) in
    rw (dedup_is _ _ _ c.dedup.ensures.filtered)
    (IsStrictlySortedBy-dedup (on_total (λ (s : UnitString). s.form.points) nat_list_cmp_total) ties c.args.strings.now.items sorted)
