-- Debug texts: consecutive writes, and the digits of a code point.
use Rattle.wtf8.proofs.Common.{◌≡◌, ℕ, ◌/◌, ◌%◌, ◌<◌, ◌≤◌, List, [], ◌∷◌, ◌++◌, refl, sym, ap, ◌∙◌, subst, arith, lt-ltb, le-ltb}
use Rattle.wtf8.proofs.Common.{lt-leb, le-leb, cases_lt, IsFlush, has_written_styled_nil, encoding, digit, encoding_is_encode, IsSurrogate}
use Rattle.wtf8.proofs.Common.{codes, writes_in_calls_append}
use Rattle.std.specs.Fmt.{HasWrittenStyled}
use Rattle.std.specs.declared.fmt.Formatter.{Formatter}
use lib.Utf8.{encode}
use Rattle.wtf8.specs.Debug.{last_four_digits, upper_hex, escape_surrogate}

-- `f` was to write `whole`; `g` is the formatter after a front of it, with `rest` left to write
pub record Continues {W : Type 0} (took : W → List ℕ → W → Type 0) (f : Formatter W) (whole : List ℕ) (g : Formatter W)
    (rest : List ℕ) : Type 0 where
  pub flush : IsFlush g
  pub ends : (h : Formatter W) → HasWrittenStyled took g rest h → HasWrittenStyled took f whole h

module _ {W : Type 0} {took : W → List ℕ → W → Type 0} where
  -- two consecutive writes
  pub then_written : {f g h : Formatter W} {a b : List ℕ} → HasWrittenStyled took f a g → HasWrittenStyled took g b h
      → HasWrittenStyled took f (a ++ b) h
  then_written p q = record { wrote = writes_in_calls_append _ _ _ _ _ _ p.wrote q.wrote; spec = q.spec ∙ p.spec; flush = q.flush }

  -- a write of an equal text
  pub written_as : {f g : Formatter W} {a b : List ℕ} → a ≡ b → HasWrittenStyled took f a g → HasWrittenStyled took f b g
  written_as {f} {g} e = subst (λ (t : List ℕ). HasWrittenStyled took f t g) e

  -- a write to an equal formatter
  pub written_to : {f g h : Formatter W} {a : List ℕ} → h ≡ g → HasWrittenStyled took f a g → HasWrittenStyled took f a h
  written_to {f} {g} {h} {a} e = subst (HasWrittenStyled took f a) (sym e)

  pub Continues-start : {f : Formatter W} (whole : List ℕ) → IsFlush f → Continues took f whole f whole
  Continues-start whole flush = record { flush = flush; ends = λ h w. w }

  pub Continues-write : {f g h : Formatter W} {whole rest a b : List ℕ} → Continues took f whole g rest → HasWrittenStyled took g a h
      → rest ≡ a ++ b → Continues took f whole h b
  Continues-write c w e = record { flush = w.flush; ends = λ h v. c.ends h (written_as (sym e) (then_written w v)) }

  pub Continues-end : {f g : Formatter W} {whole rest : List ℕ} → Continues took f whole g rest → rest ≡ []
      → HasWrittenStyled took f whole g
  Continues-end {f} {g} c e = c.ends g (written_as (sym e) (has_written_styled_nil took g c.flush))

-- the hexadecimal digits of a code point: four, five or six
pub upper_hex-four : (n : ℕ) → n < 0x10000 → upper_hex n ≡ last_four_digits n
unfolding upper_hex
upper_hex-four n h = rw (lt-ltb n 0x10000 h) refl

pub upper_hex-five : (n : ℕ) → 0x10000 ≤ n → n < 0x100000 → upper_hex n ≡ digit (n / 0x10000) ∷ last_four_digits n
unfolding upper_hex
upper_hex-five n l h = rw (le-ltb n 0x10000 l, lt-ltb n 0x100000 h) refl

pub upper_hex-six : (n : ℕ) → 0x100000 ≤ n → upper_hex n ≡ digit (n / 0x100000) ∷ digit (n / 0x10000 % 16) ∷ last_four_digits n
unfolding upper_hex
upper_hex-six n l = rw (le-ltb n 0x10000 (omega arith), le-ltb n 0x100000 l) refl

-- a surrogate is written as its `\u{...}` escape, any other code point as itself
pub escape_surrogate-surrogate : (n p : ℕ) → IsSurrogate p → n ≡ p → codes "\\u{" ++ (upper_hex n ++ codes "}") ≡ escape_surrogate p
unfolding escape_surrogate
escape_surrogate-surrogate n p h e = rw (e, le-leb 0xD800 p h.0, le-leb p 0xDFFF h.1) refl

escape_surrogate-encoding : (p : ℕ) → ¬ IsSurrogate p → escape_surrogate p ≡ encoding p
unfolding escape_surrogate
escape_surrogate-encoding p h = grind (arith, cases_lt, lt-leb, le-leb)

pub escape_surrogate-scalar : (c p : ℕ) → ¬ IsSurrogate p → c ≡ p → encode c ≡ escape_surrogate p
escape_surrogate-scalar c p h e = ap encode e ∙ (sym (encoding_is_encode p) ∙ sym (escape_surrogate-encoding p h))
