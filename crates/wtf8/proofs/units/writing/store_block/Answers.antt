use Rattle.wtf8.proofs.Common.{◌≡◌, ◌++◌, ◌∙◌, arith, length, length-drop, length-take, take, drop, sym}
use Rattle.wtf8.specs.private.UnitEnds.{picked, words, joined_words}
use Rattle.wtf8.proofs.lemmas.units.PackedWords.{four_masks, picked_by_eight}
use Rattle.wtf8.proofs.lemmas.units.UnitEnds.{Writes-trans, Writes-equal_left}
use Rattle.wtf8.proofs.units.writing.store_block.Goals as goal

pub returns-clause-written : goal.returns-clause-written
returns-clause-written c s rest long same =
    let masks = four_masks s c.args.block.ends long same in
    let s1 = drop 8 s in
    let s2 = drop 8 s1 in
    let s3 = drop 8 s2 in
    let word = c.interleave.result in
    let lengths : (length s1 ≡ 24) × (length s2 ≡ 16) × (length s3 ≡ 8) = (
      omega (arith, long, length-drop 8 s),
      omega (arith, long, length-drop 8 s, length-drop 8 s1),
      omega (arith, long, length-drop 8 s, length-drop 8 s1, length-drop 8 s2),
    ) in
    let rest3 = picked (words word.3) s3 ++ rest in
    let rest2 = picked (words word.2) (take 8 s2) ++ rest3 in
    let rest1 = picked (words word.1) (take 8 s1) ++ rest2 in
    let first = c.store_packed-after.ensures.written (take 8 s) rest1 (omega (arith, long, length-take 8 s)) masks.first in
    let second = c.store_packed-after-2.ensures.written (take 8 s1) rest2 (omega (arith, lengths.0, length-take 8 s1)) masks.second in
    let third = c.store_packed-after-3.ensures.written (take 8 s2) rest3 (omega (arith, lengths.1, length-take 8 s2)) masks.third in
    let fourth = c.store_packed.ensures.written s3 rest lengths.2 masks.fourth in
    let words_of = c.interleave.ensures in
    let u = joined_words c.args.block.low c.args.block.high in
    let whole : picked (words word.0) (take 8 s) ++ rest1 ≡ picked u s ++ rest =
    (λ i. picked (words_of.first i) (take 8 s) ++ (picked (words_of.second i) (take 8 s1) ++ (picked (words_of.third i) (take 8 s2)
    ++ (picked (words_of.fourth i) s3 ++ rest)))) ∙ sym (picked_by_eight u s rest) in
    Writes-equal_left whole (Writes-trans first (Writes-trans second (Writes-trans third fourth)))

pub returns-clause-later : goal.returns-clause-later
returns-clause-later c n after = grind arith
