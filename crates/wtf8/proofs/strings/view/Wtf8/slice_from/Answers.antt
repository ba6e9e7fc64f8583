use Rattle.wtf8.proofs.Common.{◌∙◌, rules, view_units, IsBack, arith}
use Rattle.wtf8.proofs.lemmas.strings.Positions.{cut_at}
use Rattle.wtf8.proofs.lemmas.strings.PositionLaws.{front_and_back}
use Rattle.wtf8.proofs.strings.view.Wtf8.slice_from.Goals as goal

pub skip_bytes-requires : goal.skip_bytes-requires
skip_bytes-requires c =
    let cut = cut_at c.args.self.now.well_formed c.args.begin c.requires in
    record { within = cut.within; well_formed = cut.after }

pub returns : goal.returns
returns c =
    let cut = cut_at c.args.self.now.well_formed c.args.begin c.requires in
    let points = c.skip_bytes.ensures.points cut.after ∙ cut.after_points in
    let part : IsBack (view_units c.args.self.now) c.args.begin (view_units c.skip_bytes.result) = grind (arith) in
    record {
      units = part;
      bytes = search rules;
      whole = λ front h. front_and_back (view_units c.args.self.now) front _ c.args.begin h part;
    }
