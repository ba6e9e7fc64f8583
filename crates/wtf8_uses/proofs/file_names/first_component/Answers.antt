use Rattle.std.proofs.Common.{[]}
use Rattle.wtf8_uses.proofs.PartLemmas.{slice_split-first_part, slice_split-one_part}
use Rattle.wtf8_uses.proofs.file_names.first_component.Goals as goal

pub returns-in-Some-clause-first : goal.returns-in-Some-clause-first
returns-in-Some-clause-first c = let e = c.in-Some.ensures in (_, slice_split-first_part _ _ _ _ e.joined e.separator e.before)

pub returns-in-Some-clause-more : goal.returns-in-Some-clause-more
returns-in-Some-clause-more c = let e = c.in-Some.ensures in slice_split-first_part _ _ _ _ e.joined e.separator e.before

pub returns-in-None-clause-first : goal.returns-in-None-clause-first
returns-in-None-clause-first c = ([], slice_split-one_part _ c.in-None.ensures.none)

pub returns-in-None-clause-last : goal.returns-in-None-clause-last
returns-in-None-clause-last c = slice_split-one_part _ c.in-None.ensures.none
