use Rattle.std.proofs.Common.{ap, arith, length, rules}
use Rattle.unit_text.proofs.marks.add_to_kept.Goals as goal

pub returns-else-len-needed_mark_count : goal.returns-else-len-needed_mark_count
returns-else-len-needed_mark_count g c =
    let counted = ap (λ v. length v.items) c.deref.ensures in
    record {
      kept = search rules;
      all = λ free not_ascii n h. let enough = c.needed_mark_count.ensures.all not_ascii n h in omega arith;
    }
