-- Concatenation of lists of code points: a lead and a trail that meet become one code point.
use Rattle.std.specs.Prelude.{◌≡◌, ℕ, List, [], ◌∷◌, ◌++◌, Bool, ◌&&◌, nat_le, if◌then◌else◌}
use Rattle.wtf8.specs.Unicode.{IsLead, IsTrail, pair}

-- Two lists meet as a pair if a lead ends the first and a trail begins the second.
pub record MeetsAsPair (c d : List ℕ) : Type 0 where
  pub front : List ℕ
  pub lead : ℕ
  pub trail : ℕ
  pub rest : List ℕ
  pub is_lead : IsLead lead
  pub is_trail : IsTrail trail
  pub ends : c ≡ front ++ lead ∷ []
  pub begins : d ≡ trail ∷ rest

-- Whether the first number is a lead and the second a trail.
unfoldable pub is_pair : ℕ → ℕ → Bool
is_pair l t = (nat_le 0xD800 l && nat_le l 0xDBFF) && (nat_le 0xDC00 t && nat_le t 0xDFFF)

-- The two lists joined; if they meet as a pair, its code point replaces lead and trail (WTF-8, "Concatenating").
abbrev pub glue : List ℕ → List ℕ → List ℕ
glue [] d = d
glue (p ∷ []) [] = p ∷ []
glue (p ∷ []) (q ∷ d) = if is_pair p q then pair p q ∷ d else p ∷ q ∷ d
glue (p ∷ q ∷ c) d = p ∷ glue (q ∷ c) d
