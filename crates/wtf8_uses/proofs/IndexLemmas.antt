-- Where a list ends.
use Rattle.std.proofs.Common.{◌≡◌, ℕ, ◌+◌, ◌<◌, ◌↔◌, IsTrue, false, List, ◌++◌, length, length-append}
use Rattle.std.proofs.Common.{take, drop, min, sym, ap, ◌∙◌, arith}
use Rattle.std.proofs.lemmas.Bool.{false≢true}
use Rattle.std.proofs.Math.Seq.{drop-append_seam}
use Rattle.std.proofs.lemmas.List.{drop-take, length-take, take-append-drop, take_min}

-- the first `n` numbers of `u` end with `s` exactly if `s` occurs at the index `length s` before their end
module _ (n : ℕ) (u s : List ℕ) where
  pub ends_there : (begin : ℕ) → begin + length s ≡ min n (length u)
      → (take (length s) (drop begin u) ≡ s) ↔ ((front : List ℕ) × (take n u ≡ front ++ s))
  ends_there begin e =
      let whole = take-append-drop begin (take n u) in
      let end = ap (drop begin) (sym (take_min n u)) ∙ (ap (λ m. drop begin (take m u)) (sym e) ∙ drop-take begin (length s) u) in (
        λ there. (take begin (take n u), sym whole ∙ ap (λ z. take begin (take n u) ++ z) (end ∙ there)),
        λ p. let same : begin ≡ length p.0 = omega (arith, e, ap length p.1, length-append p.0 s, length-take n u) in
            sym end ∙ (ap (drop begin) p.1 ∙ (ap (λ b. drop b (p.0 ++ s)) same ∙ drop-append_seam p.0 s)),
      )

  pub ends_nowhere : min n (length u) < length s → IsTrue false ↔ ((front : List ℕ) × (take n u ≡ front ++ s))
  ends_nowhere h = (λ t. absurd (false≢true t), λ p. absurd (omega (arith, h, ap length p.1, length-append p.0 s, length-take n u)))
