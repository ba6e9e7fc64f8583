use Rattle.std.proofs.Common.{arith}
use Rattle.wtf8_uses.proofs.ReplaceLemmas.{replaced_once}
use Rattle.wtf8_uses.proofs.string_prototype.search.replace.Goals as goal

pub returns-clause-found : goal.returns-clause-found
returns-clause-found g c =
    replaced_once c.args.other.now c.in-Some.ensures.some (omega arith) c.unit_len.ensures c.unit_len-len.ensures c.in_ok-whole.ensures.ok
    c.in_ok-concat.ensures.ok c.in_ok-back.ensures.ok c.in_ok-concat-2.ensures.ok
