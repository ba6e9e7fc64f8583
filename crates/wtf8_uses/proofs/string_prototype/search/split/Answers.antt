use Rattle.std.proofs.Common.{◌≡◌, ◌==◌, ap, ◌∙◌, rules}
use Rattle.std.specs.List.{slice_split}
use Rattle.wtf8_uses.proofs.SplitLemmas.{join_with_byte-pieces, slice_split-pieces_lack}
use Rattle.wtf8_uses.proofs.string_prototype.search.split.Goals as goal

pub returns-clause-pieces : goal.returns-clause-pieces
returns-clause-pieces g c =
    let units : c.as_slice.result.now ≡ c.args.text.now = search rules in
    c.in_ok-pieces.ensures ∙ ap (slice_split (λ u. u == c.args.separator)) units

pub returns-clause-joined : goal.returns-clause-joined
returns-clause-joined g c =
    let units : c.as_slice.result.now ≡ c.args.text.now = search rules in
    join_with_byte-pieces c.args.separator _ c.in_ok-pieces.ensures ∙ units

pub returns-clause-apart : goal.returns-clause-apart
returns-clause-apart g c = slice_split-pieces_lack c.args.separator _ c.in_ok-pieces.ensures
