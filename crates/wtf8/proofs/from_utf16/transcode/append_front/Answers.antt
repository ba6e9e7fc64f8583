use Rattle.wtf8.proofs.Common.{◌+◌, arith, sym, subst, take, drop, take_all, inr, w8, AreAscii}
use Rattle.wtf8.proofs.lemmas.lanes.AsciiFronts.{unit_mask}
use Rattle.wtf8.proofs.lemmas.from_utf16.Transcode.{front_read}
use Rattle.wtf8.proofs.from_utf16.transcode.append_front.Goals as goal

pub returns-in_default-clause-read : goal.returns-in_default-clause-read
returns-in_default-clause-read g c front read =
    let whole = c.extend_from_slice.new.self.items in
    let low = c.narrow_saturating-block.result in
    front_read g.row.N g.row.N _ read (omega arith) c.requires.within c.narrow_saturating-block.ensures
    (subst AreAscii (sym (take_all g.row.N low (omega (arith, c.narrow_saturating-block.type_inv)))) c.in_default.ensures.none)
    c.in_ok-extend_from_slice.ensures.items (omega (arith, c.args.bytes.now.ok.0, c.len-len.ensures))
    (sym (take_all (c.len-len.result + g.row.N) whole (omega (arith, c.in_ok-extend_from_slice.ensures.len))))

pub returns-clause-read : goal.returns-clause-read
returns-clause-read g c front read = front_read c.in-Some.count g.row.N _ read
    (omega (arith, c.in-Some.ensures.some.0)) c.requires.within c.narrow_saturating-block.ensures c.in-Some.ensures.some.1
    c.in_ok-extend_from_slice.ensures.items (omega (arith, c.args.bytes.now.ok.0, c.len-len.ensures)) c.truncate.ensures.items

pub returns-clause-non_ascii : goal.returns-clause-non_ascii
returns-clause-non_ascii g c = inr (unit_mask w8 g.row.N c.narrow_saturating-block.result c.requires.lanes.1
    (omega (arith, c.narrow_saturating-block.type_inv)) (take g.row.N (drop c.args.from.at c.args.v.now)) c.narrow_saturating-block.ensures)
