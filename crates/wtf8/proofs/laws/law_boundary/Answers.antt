use Rattle.wtf8.proofs.Common.{refl, view_units, view_form}
use Rattle.wtf8.proofs.lemmas.strings.PositionLaws.{none_is_beyond}
use Rattle.wtf8.proofs.lemmas.units.UnitMarks.{same_front, boundary_divides_none, boundary_is_mark, front_is_first_units}
use Rattle.wtf8.proofs.laws.law_boundary.Goals as goal

pub returns : goal.returns
returns c =
    let u = view_units c.args.view in
    let k = c.args.position in
    record {
      within = none_is_beyond _ u k (view_form c.args.view) c.requires;
      front = λ v b. front_is_first_units u v k b;
      no_pair = λ v b. boundary_divides_none u v k b;
      mark = λ v b. boundary_is_mark _ u v k (view_form c.args.view) b;
      same = λ v l b other. (same_front u v v l k other b).1 refl;
    }
