-- The laws that are called with views.
use Rattle.wtf8.proofs.Common.{◌≡◌, ◌<◌, ◌+◌, ℕ, List, [], ◌∷◌, ◌++◌, ◌∙◌, ◌↔◌, refl, ap, sym, subst, arith, get_or, length, length-append}
use Rattle.wtf8.proofs.Common.{take, take_at, append_assoc, units, bytes, Reads, IsForm, IsBack, Wtf8, view_units, view_form, AreScalar}
use Rattle.wtf8.proofs.Common.{lossy_points, chars, bytes_are_encodes, All, IsUnit, number, numbers, Drains, Option, Run, Build, CodePoint}
use Rattle.wtf8.proofs.Common.{slice_index, YieldsList-from_first, chars-encodes, get_or-append_seam, take_source, take_count, skip_source}
use Rattle.wtf8.proofs.Common.{skip_count, view_points, rules, bytes-injective}
use Rattle.std.proofs.lemmas.Iterator.{YieldsList, items_from_drains, YieldsList-from_take}
use Rattle.std.proofs.lemmas.Iterator.Adapters.{YieldsList-from_skip}
use Rattle.std.specs.Char.{encode_utf8}
use Rattle.wtf8.specs.EncodingLaws.{ScalarsAreInUtf8}
use Rattle.wtf8.specs.Form.{encoding}
use Rattle.wtf8.specs.PointLaws.{DrainedPointsAreLeft, DrainedPointsAreTaken, DrainedPointsAreAfterSkip, CollectedPointsAreLeft}
use Rattle.wtf8.specs.PointLaws.{CollectedPointsAreTaken, CollectedPointsAreAfterSkip}
use Rattle.wtf8.specs.StringLaws.{CharactersComeBack}
use Rattle.wtf8.proofs.lemmas.codec.Encoding.{encoding_one, bytes-append, bytes-pushed, encoding_same}
use Rattle.wtf8.proofs.lemmas.codec.Readings.{clean-append, unpaired-after_no_lead, unpaired-before_no_trail, same_reading, units_one}
use Rattle.wtf8.proofs.lemmas.codec.Readings.{units-append, units_pair, lists_have_lengths, form-append, form_append-unpaired}
use Rattle.wtf8.proofs.lemmas.comparing.Order.{before_bytes, cmp-bytes, order_of}
use Rattle.wtf8.proofs.lemmas.laws.ComparisonLaws.{equal_buffers_compare, equal_views_compare}
use Rattle.wtf8.proofs.lemmas.strings.Concatenation.{equal_forms, one_form, units_read, one_reading, none_begins_another, reads-glue}
use Rattle.wtf8.proofs.lemmas.strings.Concatenation.{form_paired, glue_meeting, glue-unpaired, glue_assoc, glue-nil}
use Rattle.wtf8.proofs.lemmas.strings.ExtendedForms.{all_back}
use Rattle.wtf8.proofs.lemmas.strings.Surrogates.{scalars_true, scalars-lossy_points}
use Rattle.wtf8.proofs.lemmas.strings.StringLaws.{run_once, runs_add, scalars_stay, equal_views}
use Rattle.wtf8.proofs.lemmas.units.UnitMarks.{divided_are_surrogates}

-- the code points of a view are the only reading of its units
pub view_reads : (t : Wtf8) → Reads (view_points t) (view_units t)
view_reads t = record { clean = t.well_formed.clean; same_units = refl }

pub one_view_reading : (t : Wtf8) (c : List ℕ) → Reads c (view_units t) → c ≡ view_points t
one_view_reading t c r = same_reading c (view_points t) r.clean t.well_formed.clean r.same_units

-- An ASCII unit between two lists of units.

-- a form with an ASCII unit before it
abbrev IsForm-cons_ascii : {x v : List ℕ} (b : ℕ) → b < 0x80 → IsForm x v → IsForm (b ∷ x) (b ∷ v)
IsForm-cons_ascii b l g = record {
  points = b ∷ g.points;
  reads = record {
    clean = clean-append (b ∷ []) g.points (omega arith) g.reads.clean (unpaired-after_no_lead [] b (λ p. omega (arith, p.0, l)));
    same_units = ap (λ u. u ++ units g.points) (units_one b (omega arith)) ∙ ap (λ u. b ∷ u) g.reads.same_units;
  };
  encoded = ap (λ w. w ++ bytes g.points) (encoding_one b l) ∙ ap (λ w. b ∷ w) g.encoded;
}

-- two forms with an ASCII unit between them
abbrev IsForm-ascii_between : {w u x v : List ℕ} (b : ℕ) → b < 0x80 → IsForm w u → IsForm x v → IsForm (w ++ b ∷ x) (u ++ b ∷ v)
IsForm-ascii_between b l f g =
    form-append f (IsForm-cons_ascii b l g) (unpaired-before_no_trail b g.points (λ t. omega (arith, t.0, l)))

-- the units of `whole` are those of `front`, an ASCII unit and those of `back` exactly if its bytes are
pub parted_by_ascii : (whole front back : Wtf8) (b : ℕ) → b < 0x80
    → (whole.bytes.now ≡ front.bytes.now ++ b ∷ back.bytes.now) ↔ (view_units whole ≡ view_units front ++ b ∷ view_units back)
parted_by_ascii whole front back b l = search (rules, equal_forms, IsForm-ascii_between)

-- a view whose units begin with the units of `front` and an ASCII unit: its bytes up to there, and the rest
pub record BeginsByAscii (whole front : Wtf8) (b : ℕ) (rest : List ℕ) : Type 0 where
  pub inside : length front.bytes.now < length whole.bytes.now
  pub front_bytes : take (length front.bytes.now) whole.bytes.now ≡ front.bytes.now
  pub separator : slice_index whole.bytes.now (length front.bytes.now) ≡ b
  pub after : IsBack (view_units whole) (length front.bytes.now + 1) rest

pub begins_by_ascii : (whole front : Wtf8) (b : ℕ) (rest : List ℕ) → b < 0x80 → view_units whole ≡ view_units front ++ b ∷ rest
    → BeginsByAscii whole front b rest
begins_by_ascii whole front b rest l e =
    let w = front.bytes.now in
    let f = view_form front in
    let all = units_read (view_points whole) (view_units front ++ b ∷ rest) (subst (Reads (view_points whole)) e (view_reads whole)) in
    let back = one_form rest
    (all_back (view_units front ++ b ∷ []) rest (subst (All IsUnit) (sym (append_assoc (view_units front) (b ∷ []) rest)) all)) in
    let same : whole.bytes.now ≡ w ++ b ∷ back.one = (equal_forms whole.bytes.now (w ++ b ∷ back.one) (view_units whole)
    (view_units front ++ b ∷ rest) (view_form whole) (IsForm-ascii_between b l f back.has)).1 e in
    let reads = subst (Reads (view_points front ++ b ∷ back.has.points)) (sym e) (IsForm-ascii_between b l f back.has).reads in
    record {
      inside = omega (arith, ap length same, length-append w (b ∷ back.one));
      front_bytes = ap (take (length w)) same ∙ take_at w (b ∷ back.one) (length w) refl;
      separator = ap (λ v. get_or v (length w) 0) same ∙ get_or-append_seam w b back.one 0;
      after = record {
        front = view_points front ++ b ∷ [];
        back = back.has.points;
        splits = record {
          reads = subst (λ c. Reads c (view_units whole)) (sym (append_assoc (view_points front) (b ∷ []) back.has.points)) reads;
          front_len = ap length (bytes-pushed (view_points front) b) ∙ simp (length-append, encoding_one b l, front.well_formed.encoded);
        };
        same_units = back.has.reads.same_units;
      };
    }

-- Characters: the bytes of scalar values, decoded again.

pub characters_come_back : CharactersComeBack
characters_come_back c h s = ap chars (bytes_are_encodes c) ∙ chars-encodes c (scalars_true c h s)

pub view_characters : (t : Wtf8) → AreScalar (view_points t) → chars t.bytes.now ≡ view_points t
view_characters t s = ap chars (sym t.well_formed.encoded) ∙ characters_come_back (view_points t) t.well_formed.clean s

pub lossy_characters : (t : Wtf8) → chars (bytes (lossy_points (view_points t))) ≡ lossy_points (view_points t)
lossy_characters t = ap chars (bytes_are_encodes (lossy_points (view_points t)))
    ∙ chars-encodes (lossy_points (view_points t)) (scalars-lossy_points (view_points t) t.well_formed.clean)

-- two runs of the same calls have the same outcome
pub same_run : (u v w : List ℕ) (calls : List Build) (m n : ℕ) → Run u calls v m → Run u calls w n → (v ≡ w) × (m ≡ n)
same_run u v w calls m n x y =
    let once = run_once u calls in
    let first = once.no_other v m x in
    let second = once.no_other w n y in (first.0 ∙ sym second.0, first.1 ∙ sym second.1)

-- What iterators over code points yield before their first `None`.

module _ {S : Type 0} {steps : S → Option CodePoint → S → Type 0} {s : S} {all : List ℕ} where
  abbrev numbers-drained : (points : List CodePoint) → Drains steps s points → YieldsList steps number s all → numbers points ≡ all
  numbers-drained points d e = items_from_drains points (d.1.0, d.1.1, λ _. (d.0, d.1.2)) e

pub drained_points : DrainedPointsAreLeft
drained_points left points d = numbers-drained points d (YieldsList-from_first number (λ c. c) left refl)

pub taken_points : DrainedPointsAreTaken
taken_points s points d =
    numbers-drained points d (YieldsList-from_take (take_count s) (YieldsList-from_first number (λ c. c) (take_source s) refl) refl)

pub skipped_points : DrainedPointsAreAfterSkip
skipped_points s points d =
    numbers-drained points d (YieldsList-from_skip (skip_count s) (YieldsList-from_first number (λ c. c) (skip_source s) refl) refl)

pub collected_points : CollectedPointsAreLeft
collected_points left points d = items_from_drains points d (YieldsList-from_first number (λ c. c) left refl)

pub collected_front : CollectedPointsAreTaken
collected_front s points d = search (rules, items_from_drains, YieldsList-from_take, YieldsList-from_first)

pub collected_back : CollectedPointsAreAfterSkip
collected_back s points d = search (rules, items_from_drains, YieldsList-from_skip, YieldsList-from_first)

-- the encoding of every number is the library's
pub encoding_utf8 : ScalarsAreInUtf8
unfolding encoding encode_utf8
encoding_utf8 p s = refl

-- the lemmas that state a law word for word, and so prove it
pub ruleset encoding_laws = (encoding_utf8, encoding_one, encoding_same, none_begins_another, units_one, units_pair, lists_have_lengths)

pub ruleset byte_laws = (before_bytes, cmp-bytes, order_of, equal_buffers_compare, equal_views_compare, bytes-injective)

pub ruleset form_laws = (one_reading, units_read, equal_views, parted_by_ascii, reads-glue, form_paired, form_append-unpaired)

pub ruleset glue_laws = (glue_meeting, glue-unpaired, glue_assoc, glue-nil, run_once, runs_add, scalars_stay, characters_come_back)

pub ruleset view_laws = (view_reads, one_view_reading, view_characters, lossy_characters, divided_are_surrogates)

pub ruleset laws = (encoding_laws, byte_laws, form_laws, glue_laws, view_laws)
