-- Repeated lists.
use Rattle.std.proofs.Common.{◌≡◌, ℕ, zero, suc, ◌+◌, ◌*◌, ◌/◌, ◌%◌, ◌<◌, ◌≤◌, List, [], ◌++◌, length, take, refl, sym, ap, ◌∙◌, arith}
use Rattle.std.proofs.Common.{append-nil, append_assoc}
use Rattle.std.proofs.Math.Nat.{div-add-mod}
use Rattle.std.proofs.Math.Seq.{take-append-add}
use Rattle.std.proofs.lemmas.Grind.{common_steps}
use Rattle.std.proofs.lemmas.List.{nil_from_length, take-append-le}
use Rattle.std.specs.List.{repeat}

-- appending one more copy is one more repetition
pub repeat_one_more : (n : ℕ) (xs : List ℕ) → repeat n xs ++ xs ≡ repeat (suc n) xs
repeat_one_more zero xs = sym (append-nil xs)
repeat_one_more (suc n) xs = append_assoc xs (repeat n xs) xs ∙ ap (λ ys. xs ++ ys) (repeat_one_more n xs)

take-repeat_one : (more rest : ℕ) (xs : List ℕ) → rest ≤ length xs → rest < suc more → take rest (repeat more xs) ≡ take rest xs
take-repeat_one zero rest xs h k = let e : rest ≡ 0 = omega arith in rw e
take-repeat_one (suc more) rest xs h k = take-append-le rest xs (repeat more xs) h

-- the first `n` numbers of a repeated list: `whole` copies and `rest` numbers of one more
pub take_repeat : (whole n m rest : ℕ) (xs : List ℕ) → n ≡ whole * length xs + rest → rest ≤ length xs → 0 < length xs → n ≤ m
    → take n (repeat m xs) ≡ repeat whole xs ++ take rest xs
take_repeat zero n m rest xs e h k l = let same : n ≡ rest = omega arith in rw same (take-repeat_one m rest xs h (omega arith))
take_repeat (suc whole) n zero rest xs e h k l = absurd (omega arith)
take_repeat (suc whole) n (suc m) rest xs e h k l =
    let more : n ≡ length xs + (whole * length xs + rest) = omega arith in
    rw more (take-append-add xs (repeat m xs) _ ∙ (ap (λ ys. xs ++ ys) (take_repeat whole _ m rest xs refl h k (omega arith))
    ∙ sym (append_assoc xs (repeat whole xs) (take rest xs))))

repeat-nil : (n : ℕ) (xs : List ℕ) → xs ≡ [] → repeat n xs ≡ []
repeat-nil zero xs e = refl
repeat-nil (suc n) xs e = rw (repeat-nil n xs e) (append-nil xs ∙ e)

-- repetitions of the empty list are empty
pub repeat_nothing : (n : ℕ) (xs : List ℕ) → length xs ≡ 0 → take n (repeat n xs) ≡ []
repeat_nothing n xs h = rw (repeat-nil n xs (nil_from_length xs h)) (grind (arith, common_steps))

-- the first `n` numbers of a list repeated: `n / length xs` copies and `n % length xs` numbers of one more
pub take_filling : (n : ℕ) (xs : List ℕ) → 0 < length xs → take n (repeat n xs) ≡ repeat (n / length xs) xs ++ take (n % length xs) xs
take_filling n xs h =
    let e : n ≡ n / length xs * length xs + n % length xs = omega (arith, div-add-mod n (length xs)) in
    take_repeat (n / length xs) n n (n % length xs) xs e (omega arith) h (omega arith)
