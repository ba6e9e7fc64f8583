use borrow.Rule.Slice.PartMut.{put_mid}
use Rattle.std.proofs.Common.{◌≡◌, ℕ, ◌+◌, ◌-◌, ◌≤◌, ◌<◌, List, ◌++◌, length, take, drop, refl, sym, ap, ◌∙◌, arith, length-append, length-drop, length-take, take-add}
use Rattle.std.proofs.Math.Nat.{min-le_left, min-le_right}
use Rattle.std.proofs.lemmas.List.{drop-drop, drop_at, take_all, take_at, take-append-drop}
use Rattle.unit_text.proofs.UnitLemmas.{WritesAt-part}
use Rattle.wtf8.specs.Form.{bytes}
use Rattle.wtf8.specs.OneForm.{bytes-injective}
use Rattle.wtf8.specs.View.{view_points}
use Rattle.wtf8.specs.declared.strings.view.Wtf8.{Wtf8}
use Rattle.wtf8.proofs.lemmas.codec.Encoding.{bytes-append}
use Rattle.wtf8.proofs.lemmas.comparing.Parts.{first_boundary}
use Rattle.wtf8_c.proofs.Walks.{few_points}
use Rattle.wtf8_c.proofs.points_out.copy_points.Goals as goal

-- a view has the code points of its part before a boundary, then the code points of its part after it
parts_points : (v front back : Wtf8) (k : ℕ) → front.bytes.now ≡ take k v.bytes.now → back.bytes.now ≡ drop k v.bytes.now
    → view_points v ≡ view_points front ++ view_points back
parts_points v front back k e f =
    let w = v.bytes.now in
    let first = front.well_formed.encoded ∙ e in
    let second = back.well_formed.encoded ∙ f in
    bytes-injective (view_points v) (view_points front ++ view_points back)
    (v.well_formed.encoded ∙ (sym (take-append-drop k w) ∙ (sym (ap (λ x. x ++ drop k w) first)
    ∙ (sym (ap (λ y. bytes (view_points front) ++ y) second) ∙ sym (bytes-append (view_points front) (view_points back))))))

-- the first `k + n` elements are the first of `all`, and nothing else is changed
record IsWritten (first all new : List ℕ) (k n : ℕ) : Type 0 where
  pub written : take (k + n) new ≡ take (k + n) all
  pub rest : drop (k + n) new ≡ drop (k + n) first
  pub size : length new ≡ length first

-- the part from index `k` on is replaced by one that begins with the next `n` elements
written_on : (first out all ys : List ℕ) (k n : ℕ) → take k out ≡ take k all → drop k out ≡ drop k first → length out ≡ length first
    → k + n ≤ length out → n ≤ length (drop k all) → length ys ≡ length out - k → take n ys ≡ take n (drop k all)
    → drop n ys ≡ drop n (drop k out) → IsWritten first all (put_mid k (length out - k) out ys) k n
written_on first out all ys k n before after size room some len front back =
    let next = take n (drop k all) in
    let count : length next ≡ n = omega (arith, length-take n (drop k all), some) in
    let w = WritesAt-part out ys next k (length out - k) refl (omega (arith, count, room)) len (ap (λ m. take m ys) count ∙ front)
    (ap (λ m. drop m ys) count ∙ (back ∙ ap (λ m. drop m (drop k out)) (sym count))) in
    let new = put_mid k (length out - k) out ys in record {
      written = ap (λ m. take (k + m) new) (sym count) ∙ (w.front ∙ (ap (λ x. x ++ next) before ∙ sym (take-add k n all)));
      rest = ap (λ m. drop (k + m) new) (sym count) ∙ (w.back ∙ (ap (λ m. drop (k + m) out) count
          ∙ (sym (drop-drop n k out) ∙ (ap (drop n) after ∙ drop-drop n k first))));
      size = w.len ∙ size;
    }

-- the part from index `k` on is all that is there
whole_part : (out : List ℕ) (k : ℕ) → take (length out - k) (drop k out) ≡ drop k out
whole_part out k = take_all (length out - k) (drop k out) (omega (arith, length-drop k out))

pub loop-left-smaller : goal.loop-left-smaller
loop-left-smaller c =
    let left = c.loop-left.left in
    let position = c.boundary_before-end in
    let some : 0 < length left.bytes.now = omega (arith, c.loop-left-test.true, c.len.ensures.bytes) in
    let first = first_boundary left.well_formed some in
    let reached = position.ensures.last first.0 first.4 (omega (arith, first.2)) in
    omega (arith, reached, first.1, some, ap length c.slice_from-left.ensures.bytes ∙ length-drop position.result left.bytes.now)

pub loop-left-preserved : goal.loop-left-preserved
loop-left-preserved c =
    let all = view_points c.args.text in
    let k = c.loop-left.count in
    let out = c.loop-left.out in
    let inv = c.loop-left.invariant in
    let left = c.loop-left.left in
    let end = c.boundary_before-end.result in
    let part = c.slice_to.result in
    let back = c.slice_from-left.result in
    let copied = c.copy_part-count in
    let n = copied.result in
    let front = view_points part in
    let parts : drop k all ≡ front ++ view_points back =
    sym inv.left ∙ parts_points left part back end c.slice_to.ensures.bytes c.slice_from-left.ensures.bytes in
    let within : end ≤ length left.bytes.now = omega (arith, c.boundary_before-end.ensures.before, c.loop-left-test.true, c.len.ensures.bytes) in
    let few : n ≤ end =
    omega (
      arith,
      copied.ensures.count,
      few_points part,
      ap length c.slice_to.ensures.bytes,
      length-take end left.bytes.now,
      within,
    ) in
    let room : k + n ≤ length out = omega (arith, few, c.boundary_before-end.ensures.before, c.if-out-count-ge-PART.true, inv.within, inv.size) in
    let some : n ≤ length (drop k all) = omega (arith, ap length parts, length-append front (view_points back), copied.ensures.count) in
    let next : take n (drop k all) ≡ front = ap (take n) parts ∙ take_at front (view_points back) n (sym copied.ensures.count) in
    let step = written_on c.args.out.now out all copied.new.out k n inv.written inv.rest inv.size room some
    (omega (arith, copied.ensures.size, ap length (whole_part out k), length-drop k out)) (copied.ensures.points ∙ sym next)
    (copied.ensures.rest ∙ ap (drop n) (whole_part out k)) in
    record {
      within = omega (arith, room, inv.size);
      some = omega (arith, some, length-drop k all, inv.some);
      left = sym (sym (drop-drop n k all) ∙ (ap (drop n) parts ∙ drop_at front (view_points back) n (sym copied.ensures.count)));
      written = step.written;
      rest = step.rest;
      size = step.size;
      bytes = omega (
        arith,
        inv.bytes,
        ap (λ v. length (bytes v)) (take-add k n all ∙ ap (λ v. take k all ++ v) next),
        ap length (bytes-append (take k all) front),
        length-append (bytes (take k all)) (bytes front),
        ap length part.well_formed.encoded,
        ap length c.slice_to.ensures.bytes,
        length-take end left.bytes.now,
        ap length c.slice_from-left.ensures.bytes,
        length-drop end left.bytes.now,
        within,
      );
    }

at_end : (c : goal.After-len-3)
    → IsWritten c.args.out.now (view_points c.args.text)
    (put_mid c.loop-left.count (length c.loop-left.out - c.loop-left.count) c.loop-left.out c.copy_one_by_one-n.new.out) c.loop-left.count
    c.copy_one_by_one-n.result.0
at_end c =
    let all = view_points c.args.text in
    let k = c.loop-left.count in
    let out = c.loop-left.out in
    let inv = c.loop-left.invariant in
    let copied = c.copy_one_by_one-n.ensures in
    let n = c.copy_one_by_one-n.result.0 in
    let sub = take (length out - k) (drop k out) in
    let fits : n ≤ length sub = omega (arith, copied.count, min-le_left (length sub) (length (view_points c.loop-left.left))) in
    let some : n ≤ length (drop k all) =
    omega (arith, copied.count, min-le_right (length sub) (length (view_points c.loop-left.left)), ap length inv.left) in
    written_on c.args.out.now out all c.copy_one_by_one-n.new.out k n inv.written inv.rest inv.size
    (omega (arith, fits, ap length (whole_part out k), length-drop k out, inv.within, inv.size)) some
    (omega (arith, copied.size, ap length (whole_part out k), length-drop k out)) (copied.points ∙ ap (take n) inv.left)
    (copied.rest ∙ ap (drop n) (whole_part out k))

pub returns-clause-points : goal.returns-clause-points
returns-clause-points c = (at_end c).written

pub returns-clause-rest : goal.returns-clause-rest
returns-clause-rest c = (at_end c).rest

pub returns-clause-bytes : goal.returns-clause-bytes
returns-clause-bytes c =
    let all = view_points c.args.text in
    let k = c.loop-left.count in
    let inv = c.loop-left.invariant in
    let n = c.copy_one_by_one-n.result.0 in
    omega (
      arith,
      inv.bytes,
      c.len-2.ensures.bytes,
      c.len-3.ensures.bytes,
      c.copy_one_by_one-n.ensures.bytes,
      ap (λ v. length (bytes v)) (take-add k n all ∙ ap (λ v. take k all ++ take n v) (sym inv.left)),
      ap length (bytes-append (take k all) (take n (view_points c.loop-left.left))),
      length-append (bytes (take k all)) (bytes (take n (view_points c.loop-left.left))),
    )
