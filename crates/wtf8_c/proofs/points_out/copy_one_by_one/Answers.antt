use Rattle.std.proofs.Common.{◌≡◌, ℕ, ◌+◌, ◌≤◌, ◌<◌, List, [], ◌∷◌, ◌++◌, length, take, drop, slice_set, sym, ap, ◌∙◌, arith, length-append, length-drop, take-add}
use Rattle.std.proofs.lemmas.Grind.{take-set_at}
use Rattle.std.proofs.lemmas.List.{drop-drop, drop-set-lt, length-set}
use Rattle.wtf8.specs.Form.{bytes, encoding}
use Rattle.wtf8.specs.View.{view_points}
use Rattle.wtf8.proofs.lemmas.codec.Encoding.{bytes-pushed}
use Rattle.wtf8_c.proofs.points_out.copy_one_by_one.Goals as goal

-- what is left after the first `k` elements begins with the next one
record IsNext (all : List ℕ) (k x : ℕ) (rest : List ℕ) : Type 0 where
  pub some : k + 1 ≤ length all
  pub left : rest ≡ drop (k + 1) all
  pub taken : take (k + 1) all ≡ take k all ++ x ∷ []

next_is : (all : List ℕ) (k x : ℕ) (rest : List ℕ) → k ≤ length all → drop k all ≡ x ∷ rest → IsNext all k x rest
next_is all k x rest l e = record {
  some = omega (arith, l, length-drop k all, ap length e);
  left = sym (ap (drop 1) e) ∙ drop-drop 1 k all;
  taken = take-add k 1 all ∙ ap (λ v. take k all ++ take 1 v) e;
}

-- one more element is copied
copied_on : (out all rest : List ℕ) (k x y : ℕ) → k < length out → take k out ≡ take k all → y ≡ x → IsNext all k x rest
    → take (k + 1) (slice_set out k y) ≡ take (k + 1) all
copied_on out all rest k x y l e s n =
    take-set_at out k (k + 1) y (omega (arith)) l ∙ (ap (λ v. v ++ y ∷ []) e ∙ (ap (λ z. take k all ++ z ∷ []) s ∙ sym n.taken))

-- the elements after it are as before
rest_kept : (out old : List ℕ) (k y : ℕ) → drop k out ≡ drop k old → drop (k + 1) (slice_set out k y) ≡ drop (k + 1) old
rest_kept out old k y e =
    drop-set-lt (k + 1) out k y (omega (arith)) ∙ (sym (drop-drop 1 k out) ∙ (ap (drop 1) e ∙ drop-drop 1 k old))

pub loop-count-preserved : goal.loop-count-preserved
loop-count-preserved c =
    let all = view_points c.args.text in
    let k = c.loop-count.count in
    let x = c.in-Some.point.value in
    let inv = c.loop-count.invariant in
    let next = next_is all k x c.next.new.self inv.some (sym inv.left ∙ c.in-Some.ensures.steps) in
    record {
      within = omega (arith, c.loop-count-test.true, inv.size);
      some = next.some;
      left = next.left;
      written = copied_on c.loop-count.out all c.next.new.self k x _ c.loop-count-test.true inv.written c.to_u32.ensures.value next;
      rest = rest_kept c.loop-count.out c.args.out.now k _ inv.rest;
      size = length-set c.loop-count.out k _ ∙ inv.size;
      bytes = omega (
        arith,
        inv.bytes,
        ap (λ v. length (bytes v)) next.taken,
        ap length (bytes-pushed (take k all) x),
        length-append (bytes (take k all)) (encoding x),
        ap (λ v. length (bytes v)) c.in-Some.ensures.steps,
        length-append (encoding x) (bytes c.next.new.self),
      );
    }
