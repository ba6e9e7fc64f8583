use Rattle.std.proofs.Common.{ap, ◌++◌, ◌∙◌}
use Rattle.std.proofs.lemmas.Result.{on_ok_weaker}
use Rattle.wtf8_uses.proofs.appending.append_string.Goals as goal

pub returns-clause-bytes : goal.returns-clause-bytes
returns-clause-bytes c =
    let string = c.args.string.now in
    on_ok_weaker c.push_wtf8.result (λ appended unpaired.
    c.law_joined_strings.ensures.joined string c.args.other.now c.push_wtf8.new.self
    (appended ∙ ap (λ u. string.units ++ u) c.as_wtf8.ensures.units) unpaired) c.push_wtf8.ensures.ok
