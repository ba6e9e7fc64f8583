use Rattle.std.proofs.Common.{◌≡◌, ℕ, ◌+◌, ◌-◌, ◌*◌, ◌<◌, ◌≤◌, List, [], ◌∷◌, ◌++◌, length, take, get_or, sym, ap, ◌∙◌, subst, arith, append_assoc}
use Rattle.std.proofs.Common.{length-append, length-take}
use Rattle.std.proofs.lemmas.Bool.{false≢true}
use Rattle.std.proofs.lemmas.List.{same_from_push, take_more}
use Rattle.std.proofs.lemmas.List.Elements.{All-take}
use Rattle.wtf8.specs.Concatenation.{MeetsAsPair}
use Rattle.wtf8.specs.Form.{IsForm, Reads}
use Rattle.wtf8.specs.Unicode.{IsLead, IsTrail, IsUnit, pair, units}
use Rattle.wtf8.proofs.lemmas.codec.Readings.{clean-append, units-pushed, units_meet, units_one, units_pair, unpaired-before_no_trail}
use Rattle.wtf8.proofs.lemmas.strings.Concatenation.{one_form, units_read}
use Rattle.wtf8_c.specs.Walks.{EndsWithPoint}
use Rattle.wtf8_c.proofs.walking.last_point.Goals as goal

-- the units before an index have a reading
front_form : {w u : List ℕ} → IsForm w u → (k : ℕ) → (v : List ℕ) × IsForm v (take k u)
front_form {w} {u} f k =
    let one = one_form (take k u) (All-take IsUnit k u (units_read f.points u f.reads)) in (one.one, one.has)

-- units that end with one that no lead before it pairs with
ends_alone : (v : List ℕ) (x : ℕ) {w : List ℕ} → IsForm w v → x < 0x10000 → ¬ (MeetsAsPair v (x ∷ [])) → EndsWithPoint (v ++ x ∷ []) x
ends_alone v x f l apart =
    let c = f.points in
    let alone : Reads (x ∷ []) (x ∷ []) = record { clean = omega (arith, l); same_units = units-pushed [] x ∙ units_one x l } in
    record {
      front = c;
      reads = record {
        clean = clean-append c (x ∷ []) f.reads.clean (omega (arith, l)) (λ m. apart (units_meet f.reads alone m));
        same_units = units-pushed c x ∙ (ap (λ u. units c ++ u) (units_one x l) ∙ ap (λ u. u ++ x ∷ []) f.reads.same_units);
      };
    }

-- units that end with a pair
ends_paired : (v : List ℕ) (l t : ℕ) {w : List ℕ} → IsForm w v → IsLead l → IsTrail t → EndsWithPoint ((v ++ l ∷ []) ++ t ∷ []) (pair l t)
ends_paired v l t f lead trail =
    let c = f.points in
    record {
      front = c;
      reads = record {
        clean = clean-append c (pair l t ∷ []) f.reads.clean (omega (arith, lead, trail))
            (unpaired-before_no_trail (pair l t) [] (λ s. omega (arith, s, lead, trail)));
        same_units = units-pushed c (pair l t) ∙ (ap (λ u. units c ++ u) (units_pair l t lead trail)
            ∙ (ap (λ u. u ++ l ∷ t ∷ []) f.reads.same_units ∙ sym (append_assoc v (l ∷ []) (t ∷ []))));
      };
    }

-- what pairs with the last unit is the one before it
pair_before : (u : List ℕ) (x y : ℕ) → MeetsAsPair (u ++ y ∷ []) (x ∷ []) → IsLead y
pair_before u x y m = subst IsLead (sym (same_from_push u m.front y m.lead m.ends).1) m.is_lead

-- the units before an index: all but the last of them, then the last
last_taken : (u : List ℕ) (k j x : ℕ) → j + 1 ≡ k → k ≤ length u → x ≡ get_or u j 0 → take k u ≡ take j u ++ x ∷ []
last_taken u k j x e l is =
    ap (λ m. take m u) (sym e) ∙ (take_more u j 0 (omega (arith, e, l)) ∙ ap (λ y. take j u ++ y ∷ []) (sym is))

-- the last unit is a code point of its own
alone : {w u : List ℕ} → IsForm w u → (k j x : ℕ) → j + 1 ≡ k → k ≤ length u → x ≡ get_or u j 0 → x < 0x10000
    → ¬ (MeetsAsPair (take j u) (x ∷ [])) → EndsWithPoint (take k u) x
alone {w} {u} f k j x e l is low apart =
    subst (λ v. EndsWithPoint v x) (sym (last_taken u k j x e l is)) (ends_alone (take j u) x (front_form f j).1 low apart)

pub returns-then-index-eq1 : goal.returns-then-index-eq1
returns-then-index-eq1 c =
    let u = c.args.buf.now.units in
    let at = c.args.index in
    let last = c.unit_of-last in
    subst (λ p. EndsWithPoint (take at u) p) (sym c.from.ensures)
    (alone c.args.buf.now.form at (at - 1) last.result (omega (arith, c.requires.some)) c.requires.within last.ensures last.type_inv
    (λ m. omega (arith, ap length m.ends, length-take (at - 1) u, length-append m.front (m.lead ∷ []), c.if-index-eq1.true)))

pub returns-then-not-is_trail : goal.returns-then-not-is_trail
returns-then-not-is_trail c =
    let u = c.args.buf.now.units in
    let at = c.args.index in
    let last = c.unit_of-last in
    let no_trail : ¬ (IsTrail last.result) = λ t. false≢true (sym c.if-not-is_trail.true ∙ c.is_trail.ensures.1 t) in
    subst (λ p. EndsWithPoint (take at u) p) (sym c.from-then-not-is_trail.ensures)
    (alone c.args.buf.now.form at (at - 1) last.result (omega (arith, c.requires.some)) c.requires.within last.ensures last.type_inv
    (unpaired-before_no_trail last.result [] no_trail))

pub returns-then-not-is_lead : goal.returns-then-not-is_lead
returns-then-not-is_lead c =
    let u = c.args.buf.now.units in
    let at = c.args.index in
    let last = c.unit_of-last in
    let before = c.unit_of-before in
    let no_lead : ¬ (IsLead before.result) = λ l. false≢true (sym c.if-not-is_lead.true ∙ c.is_lead.ensures.1 l) in
    let two : 1 < at = grind (arith, c.requires.some, c.if-index-eq1.false) in
    let front = last_taken u (at - 1) (at - 2) before.result (omega (arith, two)) (omega (arith, c.requires.within)) before.ensures in
    subst (λ p. EndsWithPoint (take at u) p) (sym c.from-then-not-is_lead.ensures)
    (alone c.args.buf.now.form at (at - 1) last.result (omega (arith, two)) c.requires.within last.ensures last.type_inv
    (λ m. no_lead (pair_before (take (at - 2) u) last.result before.result (subst (λ v. MeetsAsPair v (last.result ∷ [])) front m))))

pub returns : goal.returns
returns c =
    let u = c.args.buf.now.units in
    let at = c.args.index in
    let last = c.unit_of-last in
    let before = c.unit_of-before in
    let two : 1 < at = grind (arith, c.requires.some, c.if-index-eq1.false) in
    let front = last_taken u (at - 1) (at - 2) before.result (omega (arith, two)) (omega (arith, c.requires.within)) before.ensures in
    let whole = last_taken u at (at - 1) last.result (omega (arith, two)) c.requires.within last.ensures ∙ ap (λ v. v ++ last.result ∷ []) front in
    let same : pair before.result last.result ≡ 0x10000 + (c.from-2.result - 0xD800) * 0x400 + (c.from-3.result - 0xDC00) =
    omega (arith, c.from-2.ensures, c.from-3.ensures) in
    subst (λ p. EndsWithPoint (take at u) p) same (subst (λ v. EndsWithPoint v (pair before.result last.result)) (sym whole)
    (ends_paired (take (at - 2) u) before.result last.result (front_form c.args.buf.now.form (at - 2)).1
    (c.is_lead.ensures.0 c.if-not-is_lead.false) (c.is_trail.ensures.0 c.if-not-is_trail.false)))
