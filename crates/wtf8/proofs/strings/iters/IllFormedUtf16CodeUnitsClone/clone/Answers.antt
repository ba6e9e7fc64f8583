use Rattle.wtf8.proofs.Common.{◌∙◌, ap, unread_at}
use Rattle.wtf8.specs.OneForm.{IsWellFormed-prop}
use Rattle.wtf8.proofs.strings.iters.IllFormedUtf16CodeUnitsClone.clone.Goals as goal

pub returns : goal.returns
returns c =
    let s = c.self.inside in
    record { cases = ap (unread_at s.bytes.now s.position) (IsWellFormed-prop _ c.result-2-1.given.1.0 s.after) ∙ c.self.view_is }
