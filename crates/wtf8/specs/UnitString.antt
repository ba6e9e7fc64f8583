-- What contracts see of a `Wtf8Buf`.
use Rattle.std.specs.Prelude.{ℕ, ◌≤◌, List, length, refl}
use Rattle.std.specs.Coded.{Coded, code_by, coded×, coded_list, coded_ℕ, ×_prop, le_prop}
use base.Stored.{coded_sub}
use Rattle.wtf8.specs.Form.{IsForm}
use Rattle.wtf8.specs.OneForm.{IsForm-prop}

-- A buffer: its units, its bytes, that these are the form of the units, its capacity, and that the bytes fit in it.
pub record UnitString : Type 0 where
  pub units : List ℕ
  pub bytes : List ℕ
  pub form : IsForm bytes units
  pub capacity : ℕ
  pub fits : length bytes ≤ capacity

-- The coding of a `UnitString` by its parts, which the library's `Model` asks for.
abbrev pub unit_string_code : Coded UnitString
unit_string_code =
    let is_string = λ (p : List ℕ × (List ℕ × ℕ)). IsForm p.1.0 p.0 × (length p.1.0 ≤ p.1.1) in
    code_by ((p : List ℕ × (List ℕ × ℕ)) × is_string p)
    (coded_sub (coded× (coded_list coded_ℕ) (coded× (coded_list coded_ℕ) coded_ℕ)) is_string (λ p. ×_prop (IsForm-prop p.1.0 p.0) le_prop))
    (λ s. ((s.units, (s.bytes, s.capacity)), (s.form, s.fits)))
    (λ q. record { units = q.0.0; bytes = q.0.1.0; form = q.1.0; capacity = q.0.1.1; fits = q.1.1 })
    (λ _. refl)
