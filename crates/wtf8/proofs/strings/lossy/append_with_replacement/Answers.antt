use Rattle.wtf8.proofs.Common.{◌++◌, take, ap, refl, append_assoc, take-take, arith, ◌∙◌}
use Rattle.std.specs.Str.Lossy.{replacement_bytes}
use Rattle.wtf8.proofs.strings.lossy.append_with_replacement.Goals as goal

pub returns-then-needed-spare_capacity : goal.returns-then-needed-spare_capacity
returns-then-needed-spare_capacity g c =
    let old = c.args.bytes.now.items in
    let front = take-take c.args.count 16 c.args.text.now (omega (arith, c.if-count-le-VECTOR.true)) in
    record {
      ok = c.push_block.ensures.items ∙ (ap (λ w. w ++ replacement_bytes) (c.push_front.ensures.items ∙ ap (λ w. old ++ w) front)
          ∙ append_assoc old (take c.args.count c.args.text.now) replacement_bytes);
      err = tt;
      room = λ _. refl;
      capacity = omega (arith, c.push_block.ensures.capacity, c.push_front.ensures.capacity);
    }
