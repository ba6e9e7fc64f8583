use Rattle.wtf8.proofs.Common.{◌≡◌, ℕ, ◌<◌, ◌≤◌, List, length, arith, sym, subst, view_form, AreAscii, IsForm, SurrogateAt}
use Rattle.std.proofs.lemmas.Simd.{Each1-get_or}
use Rattle.std.proofs.lemmas.Str.Ascii.{IsAscii-from_reads}
use Rattle.wtf8.proofs.lemmas.strings.Surrogates.{scalar_if_none, utf8_if_none}
use Rattle.wtf8.proofs.lemmas.units.UnitMarks.{ascii_same}
use Rattle.wtf8.proofs.strings.view.Wtf8.as_ascii_str.Goals as goal

-- no surrogate begins in a string with equal numbers of bytes and units, which is ASCII
none_by_count : {w u : List ℕ} → IsForm w u → length w ≡ length u → (k : ℕ) → 0 ≤ k → ¬ (SurrogateAt w k)
none_by_count {w} f e k l at =
    let same = ascii_same f e in
    let ascii = subst AreAscii (sym same.1) same.0 in
    omega (arith, at.first, IsAscii-from_reads w (length w) (omega arith) (λ j m. Each1-get_or (λ n. n < 0x80) w j 0 m ascii) k)

pub from_utf8_unchecked-requires : goal.from_utf8_unchecked-requires
from_utf8_unchecked-requires c = utf8_if_none c.args.self.now.well_formed (none_by_count (view_form c.args.self.now) c.requires)

pub returns-clause-scalar : goal.returns-clause-scalar
returns-clause-scalar c = scalar_if_none c.args.self.now.well_formed (none_by_count (view_form c.args.self.now) c.requires)
