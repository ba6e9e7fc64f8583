-- Characters and escapes of JSON strings: each text begins with at most one.
use Rattle.std.proofs.Common.{inl, inr, ◌≡◌, ◌≤◌, ◌+◌, ℕ, List, [], ◌∷◌, ◌++◌, Some, length, refl, sym, ap, ◌∙◌, subst, append_assoc}
use Rattle.std.proofs.Common.{append-nil, arith}
use Rattle.std.proofs.lemmas.Bool.{cases_eq}
use Rattle.std.proofs.lemmas.Bool.Decides.{nat_tests}
use Rattle.std.proofs.lemmas.Grind.{flat_map-append}
use Rattle.std.proofs.lemmas.List.{length-append}
use Rattle.wtf8.specs.Form.{bytes, encoding}
use Rattle.wtf8.specs.Unicode.{units_of}
use Rattle.wtf8_uses.specs.JsonString.{BeginsWithCharacter, BeginsWithCharacters, BeginsWithDigit, BeginsWithQuote, BeginsWithString}
use Rattle.wtf8_uses.specs.JsonString.{BeginsWithUnit, EndsEscape, FollowsBytes, escaped}

-- equal texts that begin with a digit go on alike
pub digit_after : {text other a b : List ℕ} {v w : ℕ} → text ≡ other → BeginsWithDigit text v a → BeginsWithDigit other w b → a ≡ b
digit_after e x y = cc (e, x.joined, y.joined)

-- equal texts that begin with four digits go on alike
pub unit_after : {text other a b : List ℕ} {v w : ℕ} → text ≡ other → BeginsWithUnit text v a → BeginsWithUnit other w b → a ≡ b
unit_after e x y =
    digit_after (digit_after (digit_after (digit_after e x.first y.first) x.second y.second) x.third y.third) x.fourth y.fourth

-- `u` is no letter of a two-character escape
pub no_letter_u : (l p : ℕ) → l ≡ 0x75 → ¬ (escaped l ≡ Some p)
unfolding escaped
no_letter_u l p e s = grind (arith, nat_tests, e, s)

-- equal texts that begin with the rest of an escape go on alike
pub escape_after : {text other a b : List ℕ} {p q : ℕ} → text ≡ other → EndsEscape text p a → EndsEscape other q b → a ≡ b
escape_after e (EndsEscape.letter l j s) (EndsEscape.letter m k t) = cc (e, j, k)
escape_after e (EndsEscape.letter l j s) (EndsEscape.unit m ds k is t) = absurd (no_letter_u l _ (cc (e, j, k, is)) s)
escape_after e (EndsEscape.unit l ds j is s) (EndsEscape.letter m k t) = absurd (no_letter_u m _ (cc (e, j, k, is)) t)
escape_after e (EndsEscape.unit l ds j is s) (EndsEscape.unit m es k are t) = unit_after (cc (e, j, k)) s t

-- a text that begins with a character goes on in one way
pub character_after : {text a b : List ℕ} {p q : ℕ} → BeginsWithCharacter text p a → BeginsWithCharacter text q b → a ≡ b
character_after (BeginsWithCharacter.unescaped j s) (BeginsWithCharacter.unescaped k t) = cc (j, k)
character_after (BeginsWithCharacter.unescaped j s) (BeginsWithCharacter.escape m rest k is t) = absurd (s.no_backslash (cc (j, k, is)))
character_after (BeginsWithCharacter.escape l rest j is s) (BeginsWithCharacter.unescaped k t) = absurd (t.no_backslash (cc (j, k, is)))
character_after (BeginsWithCharacter.escape l rest j is s) (BeginsWithCharacter.escape m others k are t) = escape_after (cc (j, k)) s t

-- no character begins with a quotation mark
pub no_quote : {text a b : List ℕ} {p : ℕ} → BeginsWithCharacter text p a → ¬ (BeginsWithQuote text b)
no_quote (BeginsWithCharacter.unescaped j s) q = s.no_quote (cc (j, q.joined, q.is_quote))
no_quote (BeginsWithCharacter.escape l rest j is s) q = absurd (omega (arith, is, quoted))
  where
    quoted : l ≡ 0x22
    quoted = cc (j, q.joined, q.is_quote)

-- one more character
pub characters_more : {text u rest after : List ℕ} {p : ℕ} → BeginsWithCharacters text u rest → BeginsWithCharacter rest p after
    → BeginsWithCharacters text (u ++ units_of p) after
characters_more {after = after} {p = p} (BeginsWithCharacters.none text) x =
    subst (λ v. BeginsWithCharacters text v after) (append-nil (units_of p))
    (BeginsWithCharacters.more text _ [] _ p x (BeginsWithCharacters.none _))
characters_more {after = end} {p = p} (BeginsWithCharacters.more text rest u after q y ys) x =
    subst (λ v. BeginsWithCharacters text v end) (sym (append_assoc (units_of q) u (units_of p)))
    (BeginsWithCharacters.more text rest _ _ q y (characters_more ys x))

-- what follows some of the characters before a quotation mark begins with the others
pub record Others (rest end : List ℕ) : Type 0 where
  pub units : List ℕ
  pub characters : BeginsWithCharacters rest units end

pub others : {text u v rest end after : List ℕ} → BeginsWithCharacters text u rest → BeginsWithCharacters text v end
    → BeginsWithQuote end after → Others rest end
others (BeginsWithCharacters.none text) ys q = record { units = _; characters = ys }
others (BeginsWithCharacters.more text rest u after p x xs) (BeginsWithCharacters.none same) q = absurd (no_quote x q)
others (BeginsWithCharacters.more text rest u after p x xs) (BeginsWithCharacters.more same other v end r y ys) q =
    others xs (subst (λ t. BeginsWithCharacters t v end) (sym (character_after x y)) ys) q

-- equal texts begin with the same digit
pub digit_at : {a b after : List ℕ} {v : ℕ} → a ≡ b → BeginsWithDigit a v after → BeginsWithDigit b v after
digit_at {after = after} {v = v} e x = subst (λ t. BeginsWithDigit t v after) e x

-- after `u`, a text that does not begin with four digits is no rest of an escape
pub no_unit_escape : (text rest : List ℕ) (l : ℕ) → text ≡ l ∷ rest → l ≡ 0x75
    → ((unit : ℕ) (after : List ℕ) → ¬ (BeginsWithUnit rest unit after)) → (p : ℕ) (after : List ℕ) → ¬ (EndsEscape text p after)
no_unit_escape text rest l e is none p after (EndsEscape.letter m k t) = no_letter_u m _ (cc (e, k, is)) t
no_unit_escape text rest l e is none p after (EndsEscape.unit m digits k are t) =
    none p after (subst (λ d. BeginsWithUnit d p after) (cc (e, k)) t)

-- after a backslash, a text that does not begin with the rest of an escape is no character
pub no_escape : (text rest : List ℕ) (l : ℕ) → text ≡ l ∷ rest → l ≡ 0x5C → ((p : ℕ) (after : List ℕ) → ¬ (EndsEscape rest p after))
    → (p : ℕ) (after : List ℕ) → ¬ (BeginsWithCharacter text p after)
no_escape text rest l e is none p after (BeginsWithCharacter.unescaped k t) = t.no_backslash (cc (e, k, is))
no_escape text rest l e is none p after (BeginsWithCharacter.escape m others k are t) =
    none p after (subst (λ d. EndsEscape d p after) (cc (e, k)) t)

-- where characters stop and there is no quotation mark, none comes after more characters
pub no_others : {rest u end after : List ℕ} → ((p : ℕ) (a : List ℕ) → ¬ (BeginsWithCharacter rest p a))
    → ((a : List ℕ) → ¬ (BeginsWithQuote rest a)) → BeginsWithCharacters rest u end → ¬ (BeginsWithQuote end after)
no_others no_more unclosed (BeginsWithCharacters.none text) q = unclosed _ q
no_others no_more unclosed (BeginsWithCharacters.more text rest u after p x xs) q = no_more p rest x

-- where characters stop and there is no quotation mark, no string ends
pub no_string : {text start u rest : List ℕ} → BeginsWithQuote text start → BeginsWithCharacters start u rest
    → ((p : ℕ) (after : List ℕ) → ¬ (BeginsWithCharacter rest p after)) → ((after : List ℕ) → ¬ (BeginsWithQuote rest after))
    → (v after : List ℕ) → ¬ (BeginsWithString text v after)
no_string {start = start} {rest = rest} opened characters no_more unclosed v after s =
    no_others no_more unclosed (others characters
    (subst (λ t. BeginsWithCharacters t v s.end) (cc (s.opened.joined, opened.joined)) s.characters) s.closed).characters s.closed

-- the code points before `rest`
pub record Front (text rest : List ℕ) : Type 0 where
  pub front : List ℕ
  pub joined : text ≡ front ++ rest

-- one code point more
pub front_more : {text rest after : List ℕ} {l : ℕ} → text ≡ l ∷ rest → Front rest after → Front text after
front_more {l = l} e f = record { front = l ∷ f.front; joined = e ∙ ap (λ t. l ∷ t) f.joined }

-- nothing is before the text itself
pub front_itself : {text rest : List ℕ} → text ≡ rest → Front text rest
front_itself e = record { front = []; joined = e }

front_of_digit : {text rest after : List ℕ} {v : ℕ} → BeginsWithDigit text v rest → Front rest after → Front text after
front_of_digit x f = front_more x.joined f

front_of_escape : {text rest after : List ℕ} {p : ℕ} → EndsEscape text p rest → Front rest after → Front text after
front_of_escape (EndsEscape.letter l j s) f = front_more j f
front_of_escape (EndsEscape.unit l ds j is s) f =
    front_more j (front_of_digit s.first (front_of_digit s.second (front_of_digit s.third (front_of_digit s.fourth f))))

front_of_character : {text rest after : List ℕ} {p : ℕ} → BeginsWithCharacter text p rest → Front rest after → Front text after
front_of_character (BeginsWithCharacter.unescaped j s) f = front_more j f
front_of_character (BeginsWithCharacter.escape l rest j is s) f = front_more j (front_of_escape s f)

-- what follows characters is the end of their text
pub front_of_characters : {text u rest : List ℕ} → BeginsWithCharacters text u rest → Front text rest
front_of_characters (BeginsWithCharacters.none text) = front_itself refl
front_of_characters (BeginsWithCharacters.more text rest u after p x xs) = front_of_character x (front_of_characters xs)

-- the bytes of the front and those of the rest are all
pub front_counted : {text rest : List ℕ} (w v : List ℕ) (f : Front text rest) → bytes text ≡ w → bytes rest ≡ v
    → length w ≡ length (bytes f.front) + length v
front_counted {rest = rest} w v f e g =
    ap length (sym e ∙ (ap bytes f.joined ∙ (flat_map-append encoding f.front rest ∙ ap (λ b. bytes f.front ++ b) g)))
    ∙ length-append (bytes f.front) v

-- the rest follows the bytes of the front
pub front_follows : {text rest : List ℕ} (f : Front text rest) (n : ℕ) → length (bytes f.front) ≡ n → FollowsBytes text n rest
front_follows f n e = record { front = f.front; joined = f.joined; counted = e }

-- where neither characters nor a quotation mark follow, only a backslash is no control character
pub backslash_stops : (text rest : List ℕ) (p : ℕ) → text ≡ p ∷ rest → 0x20 ≤ p
    → ((q : ℕ) (after : List ℕ) → ¬ (BeginsWithCharacter text q after)) → ((after : List ℕ) → ¬ (BeginsWithQuote text after)) → p ≡ 0x5C
backslash_stops text rest p e above no_more unclosed =
    elim (cases_eq p 0x5C) [
      | inl is ↦ is
      | inr other ↦
          absurd (no_more p rest (BeginsWithCharacter.unescaped e
          record {
            no_control = above;
            no_quote = λ q. unclosed rest record { quote = p; joined = e; is_quote = q };
            no_backslash = other;
          }))
    ]
