use Rattle.wtf8.proofs.Common.{◌≡◌, ◌+◌, ◌++◌, ◌∙◌, ◌≤◌, ap, arith, length, refl, take, append_assoc, length-append, w8, SwzOk-from_below}
use lib.Count.{ones}
use Rattle.wtf8.specs.private.UnitEnds.{picked, words}
use Rattle.wtf8.proofs.lemmas.units.PackedWords.{length-picked, ones-picked, take-packed}
use Rattle.wtf8.proofs.units.writing.store_packed.Goals as goal

pub swizzle : goal.swizzle
swizzle c = SwzOk-from_below w8 16 1 16 0 c.packing_row.result refl (omega arith) c.packing_row.ensures.within

pub returns-clause-written : goal.returns-clause-written
returns-clause-written c s rest eight same =
    let front = picked (words c.args.lanes) s in
    let kept = take c.args.at c.args.units.now in
    let count : ones c.args.index ≡ length front = ap ones same ∙ ones-picked c.args.lanes s c.fits-lanes.0 eight in
    let few : length front ≤ 8 = omega (arith, length-picked (words c.args.lanes) s, eight) in
    record {
      units = ap (λ n. take (c.args.at + n) c.store_units.new.units ++ rest) count
          ∙ (ap (λ u. u ++ rest) (c.store_units.ensures.front (length front) few ∙ ap (λ u. kept ++ u) (take-packed c.args.lanes c.packing_row.result c.args.index (omega arith) (omega arith) c.fits-lanes.1
          c.packing_row.ensures.within c.packing_row.ensures.packs s eight same))
          ∙ append_assoc kept front rest);
      same_total = omega (arith, count, length-append front rest);
      order = omega arith;
      len = c.store_units.ensures.len;
      later = λ n after. c.store_units.ensures.later n (omega (arith, after));
    }
