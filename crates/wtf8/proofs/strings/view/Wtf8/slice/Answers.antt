use Rattle.wtf8.proofs.lemmas.strings.PositionLaws.{whole_in_front}
use Rattle.wtf8.proofs.lemmas.strings.Positions.{middle_of}
use Rattle.wtf8.proofs.strings.view.Wtf8.slice.Goals as goal

pub slice_from-requires : goal.slice_from-requires
slice_from-requires c = whole_in_front _ _ c.args.end c.args.begin c.slice_to.ensures.units c.requires.order c.requires.begin_boundary

pub returns-clause-units : goal.returns-clause-units
returns-clause-units c = middle_of c.args.self.now.well_formed c.args.begin c.args.end c.slice_to.result.well_formed
    c.slice_to.ensures.units c.slice_from.ensures.units
