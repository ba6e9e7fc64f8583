use Rattle.wtf8.proofs.Common.{◌-◌, ◌∙◌, arith, chunk, length, length-chunk, subst, sym, AreAscii}
use Rattle.wtf8.proofs.lemmas.lanes.AsciiFronts.{ascii_ends, ascii_greater, ascii_saturated}
use Rattle.wtf8.proofs.from_utf16.short_ascii.are_ends_ascii.Goals as goal

pub returns : goal.returns
returns g c t =
    let units = c.args.units.now in
    let n = g.row.N in
    let last = length units - n in
    let front = length-chunk 0 n units (omega (arith, c.requires.all.0)) in
    let back = length-chunk last n units (omega (arith, c.requires.all.0)) in
    let both = ascii_greater (chunk 0 n units) (chunk last n units) (front ∙ sym back)
    (ascii_saturated _ (subst AreAscii c.narrow_saturating.ensures (c.is_ascii_block.ensures t))) in
    ascii_ends units n c.requires.all.0 c.requires.all.1 both.0 both.1
