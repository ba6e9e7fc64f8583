use Rattle.std.proofs.Common.{◌∙◌, ap}
use Rattle.std.proofs.lemmas.Option.{MatchOption-at_some}
use Rattle.dump_lines.specs.Parts.{parts_left}
use Rattle.dump_lines.proofs.Parsing.{AreParsed-push}
use Rattle.dump_lines.proofs.line.parse_calls.Goals as goal

pub loop-rest-preserved : goal.loop-rest-preserved
loop-rest-preserved g c =
    let read = c.parse_first_word.ensures in
    let before = rw (ap (parts_left 32) c.in-Some.is ∙ read.1) at c.loop-rest.invariant in
    rw c.in_ok-push.ensures.items (AreParsed-push c.args.line.now read.0 (parts_left 32 c.parse_first_word.result.1) c.loop-rest.calls.items
    c.in-Some-call.call before (MatchOption-at_some _ _ _ c.in-Some-call.is read.2))
