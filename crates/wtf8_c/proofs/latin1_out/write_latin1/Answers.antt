use Rattle.std.proofs.Common.{◌≡◌, ◌++◌, length, take, drop, refl, sym, ap, ◌∙◌, arith, length-append, length-drop, take-add}
use Rattle.std.proofs.lemmas.List.{drop-drop, drop_at, take_at}
use Rattle.wtf8.specs.View.{view_units}
use Rattle.wtf8_c.proofs.latin1_out.write_latin1.Goals as goal

pub loop-left-preserved : goal.loop-left-preserved
loop-left-preserved c =
    let all = view_units c.args.text in
    let k = c.loop-left.count in
    let inv = c.loop-left.invariant in
    let part = view_units c.next_part.result.0 in
    let back = view_units c.next_part.result.1 in
    let n = length part in
    let wrote = c.write_part-count.ensures in
    let after : drop k all ≡ part ++ back = sym inv.left ∙ sym c.next_part.ensures.whole in
    let next : take n (drop k all) ≡ part = ap (take n) after ∙ take_at part back n refl in
    record {
      within = omega (arith, wrote.index, ap length after, length-drop k all, length-append part back, inv.within);
      left = sym (ap (λ m. drop m all) wrote.index ∙ (sym (drop-drop n k all) ∙ (ap (drop n) after ∙ drop_at part back n refl)));
      written = wrote.units ∙ (ap (λ v. v ++ part) inv.written ∙ (sym (take-add k n all ∙ ap (λ v. take k all ++ v) next)
          ∙ ap (λ m. take m all) (sym wrote.index)));
      rest = λ m l. wrote.rest m l ∙ inv.rest m (omega (arith, l, wrote.index));
      size = wrote.len ∙ inv.size;
    }
