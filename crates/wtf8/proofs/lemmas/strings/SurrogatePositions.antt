-- The next surrogate after a boundary.
use Rattle.wtf8.proofs.Common.{◌≡◌, ◌≤◌, ◌+◌, ℕ, List, [], ◌∷◌, ◌++◌, length, drop, refl, ap, ◌∙◌, sym, subst, arith, append_assoc}
use Rattle.wtf8.proofs.Common.{length-append, drop_at, encoding, bytes, units, IsCodePoint, AreScalar, SurrogateAt, IsLeast, Reads}
use Rattle.wtf8.proofs.Common.{IsForm, IsBack, Splits, well_formed_of}
use Rattle.wtf8.specs.SurrogatePosition.{IsNextSurrogate, IsTextFrom}
use Rattle.wtf8.specs.private.EncodedBytes.{BeginsWithPoint}
use Rattle.wtf8.proofs.lemmas.codec.Encoding.{begins_with, bytes-append, bytes-pushed}
use Rattle.wtf8.proofs.lemmas.codec.Readings.{reads_same}
use Rattle.wtf8.proofs.lemmas.strings.Positions.{back_reads, back_unique}
use Rattle.wtf8.proofs.lemmas.strings.Surrogates.{surrogate_in, scalar_between, scalar_if_none, not_scalar_if_some}

-- the code point at the first surrogate of the bytes `w` after a boundary
pub record FoundSurrogate (u w : List ℕ) (begin found : ℕ) : Type 0 where
  pub point : BeginsWithPoint (drop found w)
  pub next : IsNextSurrogate u begin (begin + found + length (encoding point.point)) point.point

pub found_surrogate : {u v w : List ℕ} {begin : ℕ} (b : IsBack u begin v) (f : IsForm w v) (found : ℕ) → IsLeast (SurrogateAt w) 0 found
    → FoundSurrogate u w begin found
found_surrogate {u} {v} {w} {begin} b f found least =
    let p = surrogate_in f.points found (subst (λ x. SurrogateAt x found) (sym f.encoded) least.here) in
    let whole : w ≡ bytes (p.front ++ p.point ∷ p.back) = sym f.encoded ∙ ap bytes p.joined in
    let rest : drop found w ≡ encoding p.point ++ bytes p.back =
    ap (drop found) (whole ∙ bytes-append p.front (p.point ∷ p.back))
    ∙ drop_at (bytes p.front) (encoding p.point ++ bytes p.back) found p.front_len in
    let in_range : IsCodePoint p.point = omega (arith, p.surrogate.1) in
    let points : b.back ≡ p.front ++ p.point ∷ p.back = reads_same (back_reads b) f.reads ∙ p.joined in
    let begins : Splits u begin b.front (p.front ++ p.point ∷ p.back) = subst (λ c. Splits u begin b.front c) points b.splits in
    let text : AreScalar p.front =
    scalar_between [] p.front (p.point ∷ p.back)
    (λ j l n s. least.none_between j l (omega (arith, n, p.front_len)) (subst (λ x. SurrogateAt x j) (sym whole) s)) in
    let parts : b.front ++ (p.front ++ p.point ∷ p.back) ≡ (b.front ++ (p.front ++ p.point ∷ [])) ++ p.back =
    simp (append_assoc) in
    record {
      point = begins_with p.point (bytes p.back) (drop found w) in_range rest;
      next = record {
        front = b.front;
        text = p.front;
        back = p.back;
        begins = begins;
        ends = record {
          reads = subst (λ c. Reads c u) parts begins.reads;
          front_len = omega (
            arith,
            b.splits.front_len,
            p.front_len,
            ap length (bytes-append b.front (p.front ++ p.point ∷ [])),
            length-append (bytes b.front) (bytes (p.front ++ p.point ∷ [])),
            ap length (bytes-pushed p.front p.point),
            length-append (bytes p.front) (encoding p.point),
          );
        };
        scalar = text;
        surrogate = p.surrogate;
      };
    }

-- if no surrogate begins in the bytes after a boundary, these are text
pub text_if_none : {u v w : List ℕ} {begin : ℕ} → IsBack u begin v → IsForm w v → ((j : ℕ) → 0 ≤ j → ¬ (SurrogateAt w j)) → IsTextFrom u begin
text_if_none b f none = record {
  front = b.front;
  back = b.back;
  splits = b.splits;
  scalar = subst AreScalar (sym (reads_same (back_reads b) f.reads)) (scalar_if_none (well_formed_of f) none);
}

pub no_text_if_some : {u v w : List ℕ} {begin : ℕ} → IsBack u begin v → IsForm w v → (found : ℕ) → IsLeast (SurrogateAt w) 0 found
    → ¬ (IsTextFrom u begin)
no_text_if_some {u} {v} {w} {begin} b f found least t =
    let own : IsBack u begin (units t.back) = record { front = t.front; back = t.back; splits = t.splits; same_units = refl } in
    let same = back_unique u begin (units t.back) v own b in
    let points = reads_same (subst (λ x. Reads t.back x) same (back_reads own)) f.reads in
    not_scalar_if_some (well_formed_of f) found least (subst AreScalar points t.scalar)
