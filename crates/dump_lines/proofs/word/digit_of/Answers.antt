use Rattle.std.proofs.Common.{◌≡◌, ◌<◌, ◌∙◌, ℕ, true, eqb, get_or, refl, eqb-true}
use Rattle.std.proofs.lemmas.Bool.{agree_below_at}
use Rattle.std.specs.Char.{digit_value}
use Rattle.dump_lines.specs.declared.word.TheConstants.{DIGIT_VALUES}
use Rattle.dump_lines.proofs.word.digit_of.Goals as goal

-- the table has the value of each byte, by computation
get_or-DIGIT_VALUES : (b : ℕ) → b < 256 → get_or DIGIT_VALUES b 0 ≡ digit_value b
get_or-DIGIT_VALUES b lt = eqb-true _ _ (agree_below_at (λ k. eqb (get_or DIGIT_VALUES k 0) (digit_value k)) (λ k. true) 256 b refl lt)

pub returns : goal.returns
returns c = c.from.ensures ∙ get_or-DIGIT_VALUES c.args.byte c.ranges.byte.fits
