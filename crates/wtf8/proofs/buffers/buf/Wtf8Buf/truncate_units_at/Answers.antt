use Rattle.wtf8.proofs.Common.{ℕ, ◌≡◌, ◌∙◌, ◌++◌, ◌∷◌, [], ap, sym, subst, arith, inl, inr, length, take, drop, UnitString, units}
use Rattle.wtf8.proofs.Common.{well_formed_of, form_of, IsForm, BeginsWithPoint, get_or, ◌≤◌}
use Rattle.wtf8.proofs.lemmas.codec.Readings.{IsWellFormed-equal_bytes, same_points, units-pushed, units_one, lead_of}
use Rattle.wtf8.proofs.lemmas.strings.Positions.{front_boundary, front_bytes, front_unique}
use Rattle.wtf8.proofs.lemmas.strings.ExtendedForms.{scalar_to-cut, scalar_to-equal_bytes}
use Rattle.wtf8.proofs.lemmas.units.UnitCuts.{Divided, IsCodePoint-divided, lead_kept, pair_at_cut}
use Rattle.wtf8.proofs.lemmas.units.UnitMarks.{divided_at_mark, front_of_mark}
use Rattle.wtf8.proofs.buffers.buf.Wtf8Buf.truncate_units_at.Goals.{After-split_at}
use Rattle.wtf8.proofs.buffers.buf.Wtf8Buf.truncate_units_at.Goals as goal

pub truncate-requires : goal.truncate-requires
truncate-requires g c = front_boundary (front_of_mark c.args.self.now.form c.requires.mark)

pub returns-then-mark-n-clause-units : goal.returns-then-mark-n-clause-units
returns-then-mark-n-clause-units g c =
    let old = c.args.self.now in
    let front = front_of_mark old.form c.requires.mark in
    front_unique old.units c.args.mark.position _ _ c.truncate.ensures.units front
    ∙ ap (λ n. take n old.units) (omega (arith, c.if-mark-n.true))

pub returns-then-mark-n-clause-bytes : goal.returns-then-mark-n-clause-bytes
returns-then-mark-n-clause-bytes g c k f =
    let old = c.args.self.now in
    let new = c.truncate.new.self in
    front_bytes (subst (IsForm new.bytes) (returns-then-mark-n-clause-units g c) new.form) old.bytes old.form k f

-- the pair that `n` divides begins at the mark
divided : (g : _) (c : After-split_at g) → (p : ℕ) × Divided c.args.self.now.form.points c.args.n c.args.mark.position p
divided g c = elim c.requires.last [
  | inl same ↦ absurd (omega (arith, same, c.if-mark-n.false))
  | inr less ↦ divided_at_mark c.args.self.now.form c.requires.mark less.0 less.1
]

pair : (g : _) (c : After-split_at g)
    → (b : BeginsWithPoint c.split_at.result.1.now) × (b.point ≡ (divided g c).0) × (0xF0 ≤ get_or c.split_at.result.1.now 0 0)
pair g c = pair_at_cut (well_formed_of c.args.self.now.form) (divided g c).1
    (c.split_at.ensures.back ∙ ap (drop c.args.mark.position) c.as_wtf8.ensures.bytes)

pub read_lead-lead-requires : goal.read_lead-lead-requires
read_lead-lead-requires g c = let p = pair g (goal.at.read_lead-lead-requires g c).After-split_at in record { front = p.0; least = p.2 }

pub keep_lead-requires-clause-lead : goal.keep_lead-requires-clause-lead
keep_lead-requires-clause-lead g c =
    let before = (goal.at.keep_lead-requires-clause-lead g c).After-split_at in
    let d = divided g before in
    let range = IsCodePoint-divided c.args.self.now.form.reads.clean d.1 in
    let p = pair g before in
    let lead = c.read_lead-lead.ensures p.0 in
    (omega (arith, range, d.1.large, p.1, lead), omega (arith, range, d.1.large, p.1, lead))

pub keep_lead-requires-clause-within : goal.keep_lead-requires-clause-within
keep_lead-requires-clause-within g c =
    let d = divided g (goal.at.keep_lead-requires-clause-within g c).After-split_at in
    let own = c.args.self.now.form.encoded ∙ sym (ap (λ (t : UnitString). t.bytes) c.self.view_is) in
    omega (arith, d.1.long, ap length own)

pub invariant_of-self-inside : goal.invariant_of-self-inside
invariant_of-self-inside g c =
    let before = (goal.at.invariant_of-self-inside g c).After-split_at in
    let h = well_formed_of c.args.self.now.form in
    let d = (divided g before).1 in
    let p = pair g before in
    let lead = c.read_lead-lead.ensures p.0 in
    let own = c.self.inside in
    let same = ap (λ (t : UnitString). t.bytes) c.self.view_is in
    let scalar = scalar_to-equal_bytes own.utf8_prefix.len own.well_formed h (sym same) own.scalar_prefix in (
      IsWellFormed-equal_bytes (lead_kept h d) (cc (same, lead, p.1)),
      (
        scalar_to-cut own.utf8_prefix.len c.up_to-self-inside.result.len d.front _ _ scalar d.joined c.up_to-self-inside.ensures.order
            (omega (arith, d.front_len, c.up_to-self-inside.ensures.within)),
        tt,
      ),
    )

pub returns-clause-units : goal.returns-clause-units
returns-clause-units g c =
    let before = (goal.at.returns-clause-units g c).After-split_at in
    let form = c.args.self.now.form in
    let h = well_formed_of form in
    let x = divided g before in
    let d = x.1 in
    let p = pair g before in
    let lead = c.read_lead-lead.ensures p.0 in
    let points = same_points c.self-1.given.0 (lead_kept h d) (cc (ap (λ (t : UnitString). t.bytes) c.self.view_is, lead, p.1)) in
    let l = lead_of x.0 in
    let low = units_one l (omega (arith, IsCodePoint-divided h.clean d, d.large)) in
    let own : units (d.front ++ l ∷ []) ≡ take c.args.n (units h.points) = cc (units-pushed d.front l, low, d.kept) in
    ap units points ∙ own ∙ ap (take c.args.n) form.reads.same_units

pub returns-clause-bytes : goal.returns-clause-bytes
returns-clause-bytes g c k f =
    let old = c.args.self.now in
    let new = c.self-1.given.0 in
    front_bytes (subst (IsForm _) (returns-clause-units g c) (form_of new)) old.bytes old.form k f
