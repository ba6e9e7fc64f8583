use Rattle.wtf8.proofs.Common.{◌≡◌, ◌+◌, ◌-◌, ◌≤◌, ◌∙◌, ◌++◌, ap, arith, rules, refl, length, length-append, length-drop, length-take-le, drop, take, ℕ, List, false≢true}
use Rattle.std.proofs.lemmas.List.{with_items_is}
use Rattle.wtf8.proofs.lemmas.strings.Editing.{encoded_bound, three_written}
use Rattle.wtf8.proofs.lemmas.strings.PushedUnits.{are_units}
use Rattle.wtf8.proofs.strings.editing.replace_bytes.Goals as goal

pub overflow_add-two_len : goal.overflow_add-two_len
overflow_add-two_len g c =
    let a = encoded_bound (are_units c.args.first.now c.type_inv.first) c.encoded_len-first_len.ensures in
    let b = c.encoded_len.ensures.bound in
    let few = c.requires.few in
    search rules

pub overflow_add-two_len-2 : goal.overflow_add-two_len-2
overflow_add-two_len-2 g c =
    let a = encoded_bound (are_units c.args.first.now c.type_inv.first) c.encoded_len-first_len.ensures in
    let b = c.encoded_len.ensures.bound in
    let d = encoded_bound (are_units c.args.last.now c.type_inv.last) c.encoded_len-2.ensures in
    let few = c.requires.few in
    search rules

-- the length of the whole
whole_length : (old x y z : List ℕ) (begin end n : ℕ) → begin ≤ end → end ≤ length old → n ≡ (length x + length y) + length z
    → length (take begin old ++ ((x ++ (y ++ z)) ++ drop end old)) + (end - begin) ≡ length old + n
whole_length old x y z begin end n h k e = omega (arith, length-append {A = ℕ}, length-take-le {A = ℕ}, length-drop {A = ℕ})

pub returns-in_err-open_gap : goal.returns-in_err-open_gap
returns-in_err-open_gap g c x y z fx fy fz =
    let old = c.args.bytes.now.items in
    let n = c.encoded_len-first_len.result + c.encoded_len.result + c.encoded_len-2.result in
    let count = whole_length old x y z c.args.begin c.args.end n c.requires.order c.requires.within
    (omega (arith, c.encoded_len-first_len.ensures x fx, c.encoded_len.ensures.len y fy, c.encoded_len-2.ensures z fz)) in
    record {
      ok = search rules;
      err = search rules;
      room = λ fits. absurd (false≢true (c.in_err-open_gap.ensures.room (omega (arith, count, fits))));
      capacity = search rules;
    }

pub returns : goal.returns
returns g c x y z fx fy fz =
    let old = c.args.bytes.now.items in
    let opened = c.as_mut_slice-out.result.now in
    let own = c.as_mut_slice-out.ensures.value in
    let gap = c.in_ok-open_gap.ensures in
    let first = c.encoded_len-first_len.ensures x fx in
    let second = c.encoded_len.ensures.len y fy in
    let third = c.encoded_len-2.ensures z fz in
    let begin = c.args.begin in
    let two = c.encoded_len-first_len.result + c.encoded_len.result in
    let all = three_written old opened x y z begin c.args.end (begin + c.encoded_len-first_len.result) (begin + two)
    (two + c.encoded_len-2.result) (omega (arith, c.requires.order, c.requires.within)) (ap (take begin) own ∙ gap.front)
    (ap (drop (begin + (two + c.encoded_len-2.result))) own ∙ gap.back) (omega (arith, first)) (omega (arith, second))
    (omega (arith, third)) (c.write_units.ensures x fx) (c.write.ensures y fy) (c.write_units-2.ensures z fz) in
    let size : length c.write_units-2.new.out ≡ c.open_gap.new.bytes.len =
    omega (arith, c.write_units.auto.out, c.write.auto.out, c.write_units-2.auto.out, ap length own, c.open_gap.new.bytes.ok.0) in
    record {
      ok = with_items_is c.open_gap.new.bytes c.write_units-2.new.out size ∙ all;
      err = tt;
      room = λ _. refl;
      capacity = gap.capacity;
    }
