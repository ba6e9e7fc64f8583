use Rattle.std.proofs.Common.{arith}
use Rattle.wtf8_uses.proofs.IndexLemmas.{ends_there, ends_nowhere}
use Rattle.wtf8_uses.proofs.string_prototype.comparing.ends_with.Goals as goal

pub returns-in-Some : goal.returns-in-Some
returns-in-Some g c =
    let e = ends_there c.args.position c.args.text.now c.args.search.now c.in-Some.begin (omega arith) in
    (λ t. e.0 (c.starts_with.ensures.0 t), λ p. c.starts_with.ensures.1 (e.1 p))

pub returns-in-None : goal.returns-in-None
returns-in-None g c = ends_nowhere c.args.position c.args.text.now c.args.search.now (omega arith)
