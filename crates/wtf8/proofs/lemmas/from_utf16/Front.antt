-- The front of a list of units that is encoded, and the rest of it.
use Rattle.wtf8.proofs.Common.{[], List, ℕ, Bool, ◌≡◌, ◌⊎◌, ◌<◌, ◌≤◌, ◌++◌, drop, length, subst, take, take-append-drop, IsForm, IsReadTo}
use Rattle.wtf8.specs.declared.from_utf16.Progress.{Progress}
use Rattle.wtf8.proofs.lemmas.codec.Readings.{form_append-unpaired}

-- the first `count` bytes of `new` encode the units before `read.at`, and there is room for a first code point
abbrev pub EncodesFront : List ℕ → List ℕ → List ℕ → ℕ → ℕ → Progress → Type 0
EncodesFront v old new least count read = record {
  within : read.at ≤ length v;
  bytes : count ≤ length new;
  least : (4 ≤ least) × (least ≤ 52) × (least ≤ length new);
  len : length new ≡ length old;
  some : ((read.at ≡ 0) × (count ≡ 0)) ⊎ (0 < read.at);
  read : IsReadTo (take count new) [] v read.at read.is_utf8;
}

-- the bytes of the units before index `at` and the form of the units after it are the form of all units
pub read_rest : {w u : List ℕ} {at : ℕ} {known : Bool} → IsReadTo w [] u at known → (v : List ℕ) → IsForm v (drop at u)
    → IsForm (w ++ v) u
read_rest {w} {u} {at} read v rest =
    subst (λ z. IsForm (w ++ v) z) (take-append-drop at u)
    (form_append-unpaired w v _ (drop at u) read.form.form rest read.divides_no_pair)
