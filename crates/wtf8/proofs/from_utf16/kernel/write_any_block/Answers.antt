use Rattle.wtf8.proofs.Common.{◌+◌, ◌++◌, ◌∙◌, ap, arith, put_chunk_is, take, take_all}
use Rattle.wtf8.proofs.lemmas.from_utf16.PackedUnits.{ascii_block, take-written_block}
use Rattle.wtf8.proofs.from_utf16.kernel.write_any_block.Goals as goal

pub returns-then-is_ascii_block-clause-bytes : goal.returns-then-is_ascii_block-clause-bytes
returns-then-is_ascii_block-clause-bytes c =
    let len = c.args.len in
    let out = c.args.scratch.now in
    let low = c.narrow_saturating-narrowed.result in
    let long = c.narrow_saturating-narrowed.type_inv in
    let block = ascii_block c.args.units c.fits-units.0 c.narrow_saturating-narrowed.ensures
    (c.is_ascii_block.ensures c.if-is_ascii_block.true) in
    ap (take (len + 16)) (put_chunk_is len out low (omega (arith, c.requires.room, long)))
    ∙ take-written_block out low _ len 16 (omega (arith, c.requires.room)) (omega (arith, long))
    ∙ ap (λ v. take len out ++ v) (take_all 16 low (omega (arith, long)) ∙ block.0)

pub returns-then-is_ascii_block-clause-scalar : goal.returns-then-is_ascii_block-clause-scalar
returns-then-is_ascii_block-clause-scalar c t =
    (ascii_block c.args.units c.fits-units.0 c.narrow_saturating-narrowed.ensures (c.is_ascii_block.ensures c.if-is_ascii_block.true)).1
