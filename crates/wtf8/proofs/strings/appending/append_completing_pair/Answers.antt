use Rattle.wtf8.proofs.Common.{rules, ◌≡◌, ◌∷◌, ◌+◌, ◌%◌, arith, drop, get_or, pair, common_steps, drop-cons}
use Rattle.wtf8.proofs.lemmas.codec.Encoding.{encoding_four}
use Rattle.wtf8.proofs.strings.appending.append_completing_pair.Goals as goal

pub returns : goal.returns
returns g c =
    let four = encoding_four (pair c.args.lead c.args.trail) (omega (arith, c.requires.lead, c.requires.trail)) in
    let last : 0x80 + pair c.args.lead c.args.trail % 64 ≡ get_or c.args.other.now 2 0 = grind (arith) in
    let added : drop 2 c.args.other.now ≡ get_or c.args.other.now 2 0 ∷ drop 3 c.args.other.now = grind (arith, drop-cons) in
    record { ok = grind (arith, common_steps); err = search rules; room = search rules; capacity = search rules }
