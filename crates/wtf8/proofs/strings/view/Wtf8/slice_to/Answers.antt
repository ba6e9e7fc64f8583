use Rattle.wtf8.proofs.Common.{◌∙◌, rules, view_units, IsFront, arith}
use Rattle.wtf8.proofs.lemmas.strings.Positions.{cut_at}
use Rattle.wtf8.proofs.lemmas.codec.Readings.{IsWellFormed-equal_bytes}
use Rattle.wtf8.proofs.lemmas.strings.PositionLaws.{front_and_back}
use Rattle.wtf8.proofs.strings.view.Wtf8.slice_to.Goals as goal

pub split_at-requires : goal.split_at-requires
split_at-requires c = (cut_at c.args.self.now.well_formed c.args.end c.requires).within

pub from_well_formed-requires : goal.from_well_formed-requires
from_well_formed-requires c =
    IsWellFormed-equal_bytes (cut_at c.args.self.now.well_formed c.args.end c.requires).before c.split_at.ensures.front

pub returns : goal.returns
returns c =
    let cut = cut_at c.args.self.now.well_formed c.args.end c.requires in
    let points = c.from_well_formed.ensures.points (IsWellFormed-equal_bytes cut.before c.split_at.ensures.front) ∙ cut.before_points in
    let part : IsFront (view_units c.args.self.now) c.args.end (view_units c.from_well_formed.result) = grind (arith) in
    record { units = part; bytes = search rules; whole = λ back h. front_and_back (view_units c.args.self.now) _ back c.args.end part h }
