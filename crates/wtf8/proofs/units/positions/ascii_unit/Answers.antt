use Rattle.wtf8.proofs.Common.{◌∙◌, arith, sym, ap, length, get_or, Some}
use Rattle.wtf8.proofs.lemmas.strings.PositionLaws.{slice_get-ascii_prefix}
use Rattle.wtf8.proofs.lemmas.lanes.AsciiFronts.{ascii_in_block}
use Rattle.wtf8.proofs.units.positions.ascii_unit.Goals as goal

pub returns-then-is_ascii_block : goal.returns-then-is_ascii_block
returns-then-is_ascii_block g c =
    let w = c.args.view.bytes.now in
    let h = c.args.view.well_formed in
    let low = ascii_in_block g.row.N 0 w (omega (arith, c.requires.room)) (c.is_ascii_block.ensures c.if-is_ascii_block.true) in
    let unit = slice_get-ascii_prefix h.points c.args.index
    (λ j l. omega (arith, low j (omega arith) (omega (arith, l, c.if-index.true)), ap (λ v. get_or v j 0) h.encoded))
    (omega (arith, c.if-index.true, c.requires.room, ap length h.encoded)) in
    unit ∙ (ap (λ v. Some (get_or v c.args.index 0)) h.encoded ∙ ap Some (sym c.from.ensures))
