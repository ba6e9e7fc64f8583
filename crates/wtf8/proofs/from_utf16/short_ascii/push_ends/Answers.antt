use Rattle.wtf8.proofs.Common.{◌-◌, ◌∙◌, ap, arith, chunk, cond, is_ok, length, ◌++◌}
use Rattle.std.proofs.lemmas.Simd.{Each1-chunk}
use Rattle.wtf8.proofs.lemmas.lanes.AsciiFronts.{saturated}
use Rattle.wtf8.proofs.lemmas.lanes.Copies.{ends_appended}
use Rattle.wtf8.proofs.from_utf16.short_ascii.push_ends.Goals as goal

pub returns-clause-items : goal.returns-clause-items
returns-clause-items g c =
    let bytes = c.args.bytes.now in
    let units = c.args.units.now in
    let n = g.row.N in
    let last = length units - n in
    let front = c.narrow_saturating-front.ensures ∙ saturated (chunk 0 n units) (Each1-chunk _ 0 n units c.requires.ascii) in
    let back = c.narrow_saturating-back.ensures ∙ saturated (chunk last n units) (Each1-chunk _ last n units c.requires.ascii) in
    let old = bytes.items in
    let cut = c.truncate.new.self.items in
    let first = c.extend_from_slice.ensures.items ∙ ap (λ r. cond (is_ok r) (old ++ c.narrow_saturating-front.result) old) c.unwrap.ensures in
    let second = c.extend_from_slice-2.ensures.items
    ∙ ap (λ r. cond (is_ok r) (cut ++ c.narrow_saturating-back.result) cut) c.unwrap-2.ensures in
    let all = ends_appended old units n _ (omega (arith, bytes.ok.0)) c.requires.all.0 c.requires.all.1 in
    second ∙ rw (c.truncate.ensures.items, first, c.len.ensures, front, back) all
