-- The items of a decoder are a reading of its iterator's units.
use Rattle.wtf8.proofs.Common.{◌≡◌, ◌+◌, ◌-◌, ◌<◌, length, take, drop, get_or, append-nil, Reads, inl, inr, ℕ, List, [], ◌∷◌, ◌++◌, Option, None, Some, Result, Ok}
use Rattle.wtf8.proofs.Common.{Err, refl, sym, ap, ◌∙◌, subst, arith, Drains, peekable_steps, peekable_peeked, point_of_item, map, decode_steps, ReadsAll, IsClean}
use Rattle.wtf8.proofs.Common.{IsCodePoint, IsLead, IsTrail, IsReadTo, same_from_push, IsSurrogate, MatchResult, units, pair, MatchOption, IfSome, Bool, IsTrue}
use Rattle.wtf8.proofs.Common.{AreScalar, IsKnownForm, bytes, true, ◌*◌, length-take, encoding, map-append, take-append-drop, ◌≤◌, append_assoc, length-drop}
use Rattle.wtf8.proofs.Common.{take_all, DividesPair, copied_steps, iter_steps, iter_rest, common_steps, get_or-drop, ◌&&◌, IsForm, MeetsAsPair, take-add, take_at}
use Rattle.std.proofs.lemmas.List.{drop_more, nil_from_length}
use Rattle.std.specs.Iterator.{Yields}
use Rattle.std.specs.Iterator.Adapters.{peekable_source, PeekedOrNext, PeeksNext, copied_source}
use Rattle.std.specs.declared.iter.Copied.{Copied}
use Rattle.std.specs.declared.slice.Iter.{Iter}
use Rattle.std.proofs.Common.{option_copied}
use Rattle.std.specs.Prelude.{IsSomeAnd}
use Rattle.std.proofs.Math.Bool.{and-true}
use Rattle.std.proofs.Math.Seq.{take-suc}
use Rattle.std.specs.declared.iter.Ahead.{Ahead}
use Rattle.wtf8.specs.Unicode.{units_of}
use Rattle.wtf8.specs.private.Decoding.{DecodesItem}
use Rattle.wtf8.specs.declared.from_utf16.decode.DecodeUtf16.{DecodeUtf16}
use Rattle.wtf8.proofs.lemmas.codec.Encoding.{bytes-append}
use Rattle.wtf8.proofs.lemmas.from_utf16.Transcode.{IsKnownForm-append, IsReadTo-append, MeetsAsPair-take, undivided-after_no_lead}
use Rattle.wtf8.proofs.lemmas.codec.Readings.{form_append-unpaired, lengths_of_one, units_one, units_pair}

module _ {S A : Type 0} (steps : S → Option A → S → Type 0) where
  -- if each call from `t` is also a call from `s`, draining `t` is draining `s`
  Drains-from_steps : (s t : S) (xs : List A) → ((r : Option A) (u : S) → steps t r u → steps s r u) → Drains steps t xs → Drains steps s xs
  Drains-from_steps s t [] on d = (d.0, (s, refl, on None d.0 (subst (λ k. steps k None d.0) (sym d.1.1) d.1.2)))
  Drains-from_steps s t (x ∷ xs) on d = (d.0, (d.1.0, (d.1.1.0, on (Some x) d.1.1.0 d.1.1.1, d.1.1.2), d.1.2))

  yields-from_steps : (s t e : S) (xs : List A) → ((r : Option A) (u : S) → steps t r u → steps s r u) → Yields steps t xs e
      → (f : S) × Yields steps s xs f
  yields-from_steps s t e [] on y = (s, refl)
  yields-from_steps s t e (x ∷ xs) on y = (e, (y.0, on (Some x) y.0 y.1, y.2))

  pub yields-append : (s t e : S) (xs ys : List A) → Yields steps s xs t → Yields steps t ys e → Yields steps s (xs ++ ys) e
  yields-append s t e [] ys y z = subst (λ k. Yields steps k ys e) (sym y) z
  yields-append s t e (x ∷ xs) ys y z = (y.0, y.1, yields-append y.0 t e xs ys y.2 z)

  drains-append : (s t : S) (xs ys : List A) → Yields steps s xs t → Drains steps t ys → Drains steps s (xs ++ ys)
  drains-append s t [] ys y d = subst (λ k. Drains steps k ys) (sym y) d
  drains-append s t (x ∷ xs) ys y d =
      let r = drains-append y.0 t xs ys y.2 d in
      (r.0, (r.1.0, (y.0, y.1, r.1.1), r.1.2))

module _ {S : Type 0} (steps : S → Option ℕ → S → Type 0) where
  -- a call after a peek yields what it would have yielded before
  peeked_call : (s t u : Ahead S ℕ) (r : Option ℕ) → PeeksNext steps s t → peekable_steps steps t r u → peekable_steps steps s r u
  peeked_call s t u r h k = grind (arith)

  unpeeked_call : (s t : Ahead S ℕ) (r : Option ℕ) → peekable_peeked s ≡ None → PeekedOrNext steps s r t
      → steps (peekable_source s) r (peekable_source t)
  unpeeked_call s t r e k = grind (arith)

  -- if nothing is peeked, the units come from the source
  drains_source : (s : Ahead S ℕ) (xs : List ℕ) → peekable_peeked s ≡ None → Drains (peekable_steps steps) s xs
      → Drains steps (peekable_source s) xs
  drains_source s [] e d = grind (arith, unpeeked_call)
  drains_source s (x ∷ xs) e d =
      let next = d.1.1.0 in
      let r = drains_source next xs d.1.1.1.0 (d.0, (d.1.0, d.1.1.2, d.1.2)) in
      (r.0, (r.1.0, (peekable_source next, unpeeked_call s next (Some x) e d.1.1.1.1, r.1.1), r.1.2))

  item_range : (x : Result ℕ ℕ) → MatchResult x (λ c. IsCodePoint c × ¬ (IsSurrogate c)) IsSurrogate → IsCodePoint (point_of_item x)
  item_range (Ok c) kind = kind.0
  item_range (Err u) kind = omega (arith, kind)

  clean-cons : (p : ℕ) (c : List ℕ) → IsCodePoint p → IsClean c → ((q : ℕ) (d : List ℕ) → c ≡ q ∷ d → ¬ (IsLead p × IsTrail q))
      → IsClean (p ∷ c)
  clean-cons p [] range clean unpaired = range
  clean-cons p (q ∷ c) range clean unpaired = (range, unpaired q c refl, clean)

  -- if the peeked unit is no trail, the next code point is none
  lone_lead : (s e : Ahead S ℕ) (q : ℕ) (d : List ℕ) → IsSomeAnd (peekable_peeked s) (λ o. IfSome o (λ u. ¬ (IsTrail u)))
      → Yields (peekable_steps steps) s (units (q ∷ d)) e → ¬ (IsTrail q)
  lone_lead s e q d lone taken trail = grind (arith, units_one)

  -- the units of the items came from `s`, and then `after` was left
  pub record ReadsItems (s : Ahead S ℕ) (items : List (Result ℕ ℕ)) : Type 0 where
    pub clean : IsClean (map point_of_item items)
    pub after : Ahead S ℕ
    pub taken : Yields (peekable_steps steps) s (units (map point_of_item items)) after

  pub reads_items : (items : List (Result ℕ ℕ)) (s t : DecodeUtf16 S) → Yields (decode_steps steps) s items t → ReadsItems s.units items
  reads_items [] s t y = record { clean = tt; after = s.units; taken = refl }
  reads_items (x ∷ items) s t y =
      let next = y.0 in
      let item : DecodesItem steps s.units x next.units = y.1 in
      let rest = reads_items items next t y.2 in
      let more : (e : Ahead S ℕ) × Yields (peekable_steps steps) item.after (units (map point_of_item items)) e = elim item.held [
        | inl e ↦ (rest.after, subst (λ k. Yields (peekable_steps steps) k (units (map point_of_item items)) rest.after) e rest.taken)
        | inr h ↦ yields-from_steps (peekable_steps steps) item.after next.units rest.after (units (map point_of_item items))
            (λ r u. peeked_call item.after next.units u r h) rest.taken
      ] in
      record {
        clean = clean-cons (point_of_item x) (map point_of_item items) (item_range x item.kind) rest.clean
            (λ q c e pair. lone_lead next.units rest.after q c (item.lone pair.0)
            (subst (λ v. Yields (peekable_steps steps) next.units (units v) rest.after) e rest.taken) pair.1);
        after = more.0;
        taken = yields-append (peekable_steps steps) s.units item.after more.0 (units_of (point_of_item x))
            (units (map point_of_item items)) item.taken more.1;
      }

  drains_units : (items : List (Result ℕ ℕ)) (s : DecodeUtf16 S) → Drains (decode_steps steps) s items
      → Drains (peekable_steps steps) s.units (units (map point_of_item items))
  drains_units [] s d = (d.0.units, (d.1.0.units, ap (λ (k : DecodeUtf16 S). k.units) d.1.1, d.1.2))
  drains_units (x ∷ items) s d =
      let next = d.1.1.0 in
      let item : DecodesItem steps s.units x next.units = d.1.1.1 in
      let rest = drains_units items next (d.0, (d.1.0, d.1.1.2, d.1.2)) in
      let after : Drains (peekable_steps steps) item.after (units (map point_of_item items)) = elim item.held [
        | inl e ↦ subst (λ k. Drains (peekable_steps steps) k (units (map point_of_item items))) e rest
        | inr h ↦ Drains-from_steps (peekable_steps steps) item.after next.units (units (map point_of_item items))
            (λ r u. peeked_call item.after next.units u r h) rest
      ] in
      drains-append (peekable_steps steps) s.units item.after (units_of (point_of_item x))
      (units (map point_of_item items)) item.taken after

  pub reads_all : (items : List (Result ℕ ℕ)) (s : DecodeUtf16 S) → peekable_peeked s.units ≡ None
      → Drains (decode_steps steps) s items → ReadsAll steps (peekable_source s.units) items
  reads_all items s e d =
      record {
        clean = (reads_items items s d.1.0 d.1.1).clean;
        all_units = drains_source s.units (units (map point_of_item items)) e (drains_units items s d);
      }

  -- a unit that is no lead is one item
  pub item_of_unit : (s t : Ahead S ℕ) (u : ℕ) (x : Result ℕ ℕ) → MatchResult x (λ c. IsCodePoint c × ¬ (IsSurrogate c)) IsSurrogate
      → point_of_item x ≡ u → u < 0x10000 → ¬ (IsLead u) → peekable_steps steps s (Some u) t → DecodesItem steps s x t
  item_of_unit s t u x kind point range not_lead k = record {
    kind = kind;
    after = t;
    taken = rw (point, units_one u range) (t, k, refl);
    held = inl refl;
    lone = λ lead. absurd (not_lead (subst IsLead point lead));
  }

-- the peeked unit is no trail if it failed a test that every trail passes
pub peeked_no_trail : (p : Option (Option ℕ)) (o : Option ℕ) (Failed : ℕ → Type 0) → p ≡ Some o → IfSome p (λ o. IfSome o Failed)
    → ((u : ℕ) → Failed u → ¬ (IsTrail u)) → IsSomeAnd p (λ o. IfSome o (λ u. ¬ (IsTrail u)))
peeked_no_trail p o Failed e h excludes_trails = grind (arith)

-- The first call of a decoder over a slice.

abbrev PeekableUnits : Type 0
PeekableUnits = Ahead (Copied (Iter ℕ)) ℕ

abbrev steps : Copied (Iter ℕ) → Option ℕ → Copied (Iter ℕ) → Type 0
steps = copied_steps iter_steps

abbrev slice_left : PeekableUnits → List ℕ
slice_left s = iter_rest (copied_source (peekable_source s))

-- a call yields the first of the units left, and `None` only if none is left
unit_left : (s t : Copied (Iter ℕ)) (r : Option ℕ) → steps s r t
    → MatchOption r (iter_rest (copied_source s) ≡ []) (λ x. iter_rest (copied_source s) ≡ x ∷ iter_rest (copied_source t))
unit_left s t r k = grind (arith, common_steps, option_copied, nil_from_length)

pub slice_left-yields : (us : List ℕ) (s t : PeekableUnits) → peekable_peeked s ≡ None → Yields (peekable_steps steps) s us t
    → (slice_left s ≡ us ++ slice_left t) × (peekable_peeked t ≡ None)
slice_left-yields [] s t n y = (ap slice_left y, ap peekable_peeked (sym y) ∙ n)
slice_left-yields (x ∷ us) s t n y =
    let m = y.0 in
    let r = slice_left-yields us m t y.1.0 y.2 in
    (unit_left (peekable_source s) (peekable_source m) (Some x) (unpeeked_call steps s m (Some x) n y.1.1) ∙ ap (λ w. x ∷ w) r.0, r.1)

-- the first code point `p` of the units from index `at` on, and the index `end` after its units
pub record IsFirstRead (v : List ℕ) (at end p : ℕ) : Type 0 where
  pub within : end ≤ length v
  pub divides_no_pair : ¬ (DividesPair v end)
  pub reads : Reads (p ∷ []) (take (end - at) (drop at v))

-- one unit is read alone: no surrogate, a trail, or a lead that no trail follows
pub IsFirstRead-unit : (v : List ℕ) (at : ℕ) → at < length v → get_or v at 0 < 0x10000
    → (IsLead (get_or v at 0) → at + 1 < length v → ¬ (IsTrail (get_or v (at + 1) 0))) → IsFirstRead v at (at + 1) (get_or v at 0)
IsFirstRead-unit v at l h lone =
    let divides : ¬ (DividesPair v (at + 1)) = λ m. grind (arith, common_steps, take-suc, same_from_push, get_or-drop, length-drop) in
    grind (arith, drop_more, append-nil, units_one)

-- a lead and the trail after it are read together
pub IsFirstRead-pair : (v : List ℕ) (at : ℕ) → at + 1 < length v → IsLead (get_or v at 0) → IsTrail (get_or v (at + 1) 0)
    → IsFirstRead v at (at + 2) (pair (get_or v at 0) (get_or v (at + 1) 0))
IsFirstRead-pair v at l lead trail = grind (arith, drop_more, undivided-after_no_lead, append-nil, units_pair)

-- the first code point is encoded, if its encoding is appended
pub IsReadTo-point : {w front v : List ℕ} {at end p : ℕ} {known scalar : Bool} → IsReadTo w front v at known → at < end
    → IsFirstRead v at end p
    → (IsTrue scalar → ¬ (IsSurrogate p)) → IsReadTo (w ++ encoding p) front v end (known && scalar)
IsReadTo-point {p = p} x order first scalar = IsReadTo-append x order first.within first.divides_no_pair refl (record {
  form = record { points = p ∷ []; reads = first.reads; encoded = append-nil (encoding p) };
  scalar = λ t. (scalar t, tt);
})

-- Code points written to a slice.

-- the first code point has at most three bytes for each of its units
pub IsFirstRead-length : {v : List ℕ} {at end p : ℕ} → IsFirstRead v at end p → length (encoding p) ≤ 3 * (end - at)
IsFirstRead-length {v} {at} {end} {p} first =
    omega (arith, lengths_of_one, ap length first.reads.same_units, ap length (append-nil (units_of p)), length-take {A = ℕ})

-- the first code point is encoded, if its encoding is written after the bytes so far
pub IsReadTo-written : (w old new : List ℕ) (len after : ℕ) {front v : List ℕ} {at end p : ℕ} {known scalar : Bool}
    → IsReadTo (w ++ take len old) front v at known → at < end → IsFirstRead v at end p → (IsTrue scalar → ¬ (IsSurrogate p))
    → take after new ≡ take len old ++ encoding p → IsReadTo (w ++ take after new) front v end (known && scalar)
IsReadTo-written w old new len after {front} {v} {at} {end} {p} {known} {scalar} read order first no_surrogate written =
    subst (λ z. IsReadTo z front v end (known && scalar)) (append_assoc w (take len old) (encoding p) ∙ ap (λ z. w ++ z) (sym written))
    (IsReadTo-point read order first no_surrogate)

-- a unit below D800 is read alone
pub IsFirstRead-low : (v : List ℕ) (at p : ℕ) → at < length v → get_or v at 0 < 0xD800 → p ≡ get_or v at 0 → IsFirstRead v at (at + 1) p
IsFirstRead-low v at p within low same =
    rw same (IsFirstRead-unit v at within (omega (arith, low)) (λ l. omega (arith, l.0, low)))

-- a unit below D800 is encoded, if its encoding is appended
pub IsReadTo-low : {w front v : List ℕ} {at : ℕ} {known : Bool} → IsReadTo w front v at known → at < length v → get_or v at 0 < 0xD800
    → IsReadTo (w ++ encoding (get_or v at 0)) front v (at + 1) known
IsReadTo-low {w} {front} {v} {at} {known} read within low = subst (IsReadTo (w ++ encoding (get_or v at 0)) front v (at + 1)) (and-true known)
    (IsReadTo-point {scalar = true} read (omega arith) (IsFirstRead-low v at (get_or v at 0) within low refl) (λ _ s. omega (arith, s.0, low)))

-- All items of a decoder over a slice.

-- the units that a drained iterator yielded are the units that it had left
drained_units : (us : List ℕ) (s : Copied (Iter ℕ)) → Drains steps s us → us ≡ iter_rest (copied_source s)
drained_units [] s d = sym (unit_left s d.0 None (subst (λ k. steps k None d.0) (sym d.1.1) d.1.2))
drained_units (x ∷ us) s d =
    let next = d.1.1.0 in
    ap (λ w. x ∷ w) (drained_units us next (d.0, (d.1.0, d.1.1.2, d.1.2))) ∙ sym (unit_left s next (Some x) d.1.1.1)

-- the form of a front and the first units: the bytes so far, and the encodings of a decoder's first items
pub form_of_items : {w front u : List ℕ} {at : ℕ} {known : Bool} (items : List (Result ℕ ℕ)) (s t : DecodeUtf16 (Copied (Iter ℕ)))
    → IsReadTo w front u at known → peekable_peeked s.units ≡ None → slice_left s.units ≡ take (length u - at) (drop at u)
    → Yields (decode_steps steps) s items t → (n : ℕ) × IsForm (w ++ bytes (map point_of_item items)) (front ++ take n u)
form_of_items {w} {front} {u} {at} items s t x none rest y =
    let points = map point_of_item items in
    let r = reads_items steps items s t y in
    let got = slice_left-yields (units points) s.units r.after none r.taken in
    let count = length (units points) in
    let whole : drop at u ≡ units points ++ slice_left r.after =
    sym (rest ∙ take_all (length u - at) (drop at u) (omega (arith, length-drop at u))) ∙ got.0 in
    let first : units points ≡ take count (drop at u) =
    sym (ap (take count) whole ∙ take_at (units points) (slice_left r.after) count refl) in
    let unpaired : ¬ (MeetsAsPair (front ++ take at u) (units points)) =
    λ m. x.divides_no_pair (MeetsAsPair-take (front ++ take at u) (drop at u) count (subst (MeetsAsPair (front ++ take at u)) first m)) in
    let form : IsForm (bytes points) (units points) =
    record { points = points; reads = record { clean = r.clean; same_units = refl }; encoded = refl } in
    let joined : (front ++ take at u) ++ units points ≡ front ++ take (at + count) u =
    append_assoc front (take at u) (units points) ∙ ap (λ z. front ++ z) (ap (λ z. take at u ++ z) first ∙ sym (take-add at count u)) in (
      at + count,
      subst (IsForm (w ++ bytes points)) joined
          (form_append-unpaired w (bytes points) (front ++ take at u) (units points) x.form.form form unpaired),
    )

-- the encodings of all items after one more
pub encoded_item : (w : List ℕ) {now new : List ℕ} (items : List (Result ℕ ℕ)) (x : Result ℕ ℕ) {p : ℕ}
    → now ≡ w ++ bytes (map point_of_item items) → new ≡ now ++ encoding p → point_of_item x ≡ p
    → new ≡ w ++ bytes (map point_of_item (items ++ x ∷ []))
encoded_item w {now} {new} items x {p} before added same = grind (arith, append_assoc, append-nil, bytes-append, map-append)

-- the form of all units: the bytes so far, and the encodings of the decoder's items for the rest
pub rest_read : {w new front u : List ℕ} {at : ℕ} {known more : Bool} (items : List (Result ℕ ℕ)) (iter : Copied (Iter ℕ))
    → IsReadTo w front u at known
    → iter_rest (copied_source iter) ≡ take (length u - at) (drop at u) → ReadsAll steps iter items
    → new ≡ w ++ bytes (map point_of_item items) → (IsTrue more → IsTrue known × AreScalar (map point_of_item items))
    → IsKnownForm new (front ++ u) more
rest_read {w} {new} {front} {u} {at} {known} {more} items iter x rest reads appended flags =
    let points = map point_of_item items in
    let all : units points ≡ drop at u =
    drained_units (units points) iter reads.all_units ∙ rest ∙ take_all (length u - at) (drop at u) (omega (arith, length-drop at u)) in
    let back : IsKnownForm (bytes points) (drop at u) more = record {
      form = record { points = points; reads = record { clean = reads.clean; same_units = all }; encoded = refl };
      scalar = λ t. (flags t).1;
    } in
    let whole = IsKnownForm-append w (bytes points) (front ++ take at u) (drop at u) known more more x.form back x.divides_no_pair
    (λ t. ((flags t).0, t)) in
    let joined : (front ++ take at u) ++ drop at u ≡ front ++ u =
    append_assoc front (take at u) (drop at u) ∙ ap (λ z. front ++ z) (take-append-drop at u) in
    subst (λ v. IsKnownForm v (front ++ u) more) (sym appended) (subst (λ v. IsKnownForm (w ++ bytes points) v more) joined whole)
