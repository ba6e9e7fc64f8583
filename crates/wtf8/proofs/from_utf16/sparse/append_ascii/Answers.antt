use Rattle.wtf8.proofs.Common.{◌≡◌, ◌∙◌, arith, ap, sym, subst, take, drop, take-take, cond, is_ok, ◌++◌, AreAscii}
use Rattle.wtf8.proofs.lemmas.lanes.AsciiFronts.{saturated_ascii}
use Rattle.wtf8.proofs.lemmas.from_utf16.Transcode.{front_read}
use Rattle.wtf8.proofs.from_utf16.sparse.append_ascii.Goals as goal

pub returns-clause-read : goal.returns-clause-read
returns-clause-read g c is_utf8 front read =
    let count = c.args.count in
    let units = drop c.args.at c.args.v.now in
    let low = c.narrow_saturating-block.result in
    let short : take count (take 32 units) ≡ take count units = take-take count 32 units c.requires.few in
    let kept : take count low ≡ take count units = ap (take count) c.narrow_saturating-block.ensures
    ∙ saturated_ascii count (take 32 units) (subst AreAscii (sym short) c.requires.ascii) ∙ short in
    let old = c.args.bytes.now.items in
    let added = c.extend_from_slice.ensures.items ∙ ap (λ r. cond (is_ok r) (old ++ low) old) c.unwrap.ensures in
    front_read count 32 _ read c.requires.few c.requires.within c.narrow_saturating-block.ensures
    (subst AreAscii (sym kept) c.requires.ascii) added
    (omega (arith, c.args.bytes.now.ok.0, c.len-len.ensures)) c.truncate.ensures.items
