use Rattle.wtf8.proofs.Common.{view_units, view_form, take, drop, IsFront, IsBack, arith}
use Rattle.wtf8.proofs.lemmas.strings.Positions.{cut_by, front_unique, back_unique}
use Rattle.wtf8.proofs.lemmas.units.UnitMarks.{cut_of, mark_divides_none, same_mark, marks_in_order, mark_found_again}
use Rattle.wtf8.proofs.laws.law_mark.Goals as goal

pub returns : goal.returns
returns c =
    let own = c.args.view.well_formed in
    let form = view_form c.args.view in
    let u = view_units c.args.view in
    let k = c.args.mark.position in
    let n = c.args.mark.units in
    let x = cut_of own c.requires in
    let splits = (cut_by own x.front x.back k x.joined x.front_len).splits in
    let before : IsFront u k (take n u) = grind (arith) in
    let after : IsBack u k (drop n u) = grind (arith) in
    record {
      boundary = record { front = x.front; back = x.back; splits = splits };
      before = before;
      after = after;
      front = λ v f. front_unique u k v _ f before;
      back = λ v b. back_unique u k v _ b after;
      no_pair = mark_divides_none _ u k n form c.requires;
      same = λ other m. same_mark _ u other.position k other.units n form m c.requires;
      order = λ other m. marks_in_order _ u other.position k other.units n form m c.requires;
      found = λ other m e. mark_found_again _ u k other.position n other.units form c.requires m e;
    }
