use Rattle.wtf8.proofs.Common.{ap, rules, ◌∙◌, UnitString, units}
use Rattle.wtf8.proofs.lemmas.codec.Readings.{same_points}
use Rattle.wtf8.proofs.buffers.buf.Wtf8Buf.as_wtf8.Goals as goal

pub from_well_formed-requires : goal.from_well_formed-requires
from_well_formed-requires g c = rw c.as_slice.ensures.value c.self.inside.well_formed

pub returns : goal.returns
returns g c =
    let same = c.from_well_formed.ensures.bytes ∙ c.as_slice.ensures.value in
    let points = same_points c.from_well_formed.result.well_formed c.self.inside.well_formed same in
    record {
      bytes = search rules;
      points = points ∙ ap (λ (t : UnitString). t.form.points) c.self.view_is;
      units = ap units points ∙ ap (λ (t : UnitString). t.units) c.self.view_is;
    }
