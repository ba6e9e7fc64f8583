use Rattle.std.proofs.Common.{◌∙◌}
use Rattle.wtf8.specs.View.{view_points}
use Rattle.unit_text.proofs.ReadingLemmas.{reading-unique}
use Rattle.unit_text.proofs.text.UnitText.as_wtf8.Goals as goal

pub returns-clause-reading : goal.returns-clause-reading
returns-clause-reading g c =
    let view = c.as_wtf8.result in
    reading-unique c.law_one_reading.ensures.unique c.law_one_reading.ensures.of_units c.law_concat.ensures.reads
    (view_points view) c.args.self.now (record { clean = view.well_formed.clean; same_units = c.as_wtf8.ensures.units ∙ c.self.view_is })
