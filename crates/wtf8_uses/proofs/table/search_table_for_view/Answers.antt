use Rattle.std.proofs.Common.{slice_index_or, sym, ap, ◌∙◌, rules}
use Rattle.std.proofs.lemmas.Fn.{always_returns_same}
use Rattle.std.proofs.lemmas.List.Sorted.{searchable_from_sorted}
use Rattle.std.specs.Cmp.Lexicographic.{slice_cmp, nat_list_cmp_total}
use Rattle.std.specs.Ordering.{nat_cmp}
use Rattle.wtf8.specs.Unicode.{units}
use Rattle.wtf8.specs.View.{view_points}
use Rattle.wtf8_uses.proofs.BeforeLemmas.{MatchOrdering-slice_cmp}
use Rattle.wtf8_uses.proofs.table.search_table_for_view.Goals as goal

pub returns-in-Ok-clause-found : goal.returns-in-Ok-clause-found
returns-in-Ok-clause-found g c = λ d.
    let points = view_points c.args.view in
    let here = slice_index_or c.args.table.now c.in-Ok.index d in
    let found =
    c.in-Ok.ensures.position (λ s. slice_cmp nat_cmp s.form.points points) (always_returns_same _ _ _ (λ a r q h. search rules)) in
    sym here.form.reads.same_units ∙ ap units (MatchOrdering-slice_cmp c.law_byte_order.ensures.order here.form.points points _ (found d))

pub returns-in-Err-clause-absent : goal.returns-in-Err-clause-absent
returns-in-Err-clause-absent g c =
    let points = view_points c.args.view in
    let table = c.args.table.now in
    let rising = searchable_from_sorted nat_list_cmp_total (λ s. s.form.points) table points c.requires in
    let parts = c.in-Err.ensures.position (λ s. slice_cmp nat_cmp s.form.points points)
    (always_returns_same _ _ _ (λ a r q h. search rules)) rising in (
      λ k d l h. MatchOrdering-slice_cmp c.law_byte_order.ensures.order (slice_index_or table k d).form.points points _ (parts.0 k d l h),
      λ k d l h. MatchOrdering-slice_cmp c.law_byte_order.ensures.order (slice_index_or table k d).form.points points _ (parts.1 k d l h),
    )
