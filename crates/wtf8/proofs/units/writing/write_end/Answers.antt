use Rattle.wtf8.proofs.Common.{rules, arith}
use Rattle.std.proofs.lemmas.Slice.{drop-put_mid}
use Rattle.wtf8.proofs.units.writing.write_end.Goals as goal

pub returns-clause-rest : goal.returns-clause-rest
returns-clause-rest g c n after = search (rules, arith, drop-put_mid)
