use Rattle.wtf8.proofs.Common.{nat_tests, ◌≤◌, ◌≡◌, ◌∙◌, ◌+◌, ◌-◌, [], ◌++◌, ap, sym, length, take, arith, length-append}
use Rattle.wtf8.proofs.Common.{length-drop, length-take, drop, drop_all, units, view_units, drop-take, option_to_list}
use Rattle.wtf8.proofs.Common.{take-append-add, ℕ, Option, None, Some, refl}
use Rattle.wtf8.proofs.lemmas.codec.Readings.{points-nil}
use Rattle.wtf8.proofs.lemmas.units.UnitCuts.{divides_after}
use Rattle.std.specs.Option.{is_some}
use mir.Val.{bool_byte}
use Rattle.wtf8.proofs.strings.view.Wtf8.slice_units.Goals.{After-from}
use Rattle.wtf8.proofs.strings.view.Wtf8.slice_units.Goals as goal

pub returns-then-begin-end-clause-units : goal.returns-then-begin-end-clause-units
returns-then-begin-end-clause-units c =
    let u = units c.args.self.now.well_formed.points in
    ap (λ d. units d ++ []) (points-nil c.from_str.result.well_formed (ap length c.from_str.ensures.bytes))
    ∙ sym (drop_all c.args.begin (take c.args.end u) (omega (arith, length-take c.args.end u, c.if-begin-end.true)))

-- a half is one unit, and none is nothing
len_of_half : (half : Option ℕ) → (bool_byte (is_some half) ≡ length (option_to_list half)) × (length (option_to_list half) ≤ 1)
len_of_half None = (refl, omega arith)
len_of_half (Some t) = (refl, omega arith)

half_len : (c : After-from) → c.from.result ≡ length (option_to_list c.units_after-trail.result.0)
half_len c = c.from.ensures ∙ (ap bool_byte c.is_some.ensures ∙ (len_of_half c.units_after-trail.result.0).0)

-- the trail that is cut off at `begin`, if any, is before `end`
trail_before_end : (c : After-from) → c.from.result ≤ c.args.end - c.args.begin
trail_before_end c =
    grind (arith, nat_tests, half_len c, (len_of_half c.units_after-trail.result.0).1, c.requires.order, c.if-begin-end.false)

-- the units from `begin` on: the cut-off trail, if any, and the rest
units_from_begin : (c : After-from)
    → c.from.result + length (view_units c.units_after-trail.result.1) ≡ length (view_units c.args.self.now) - c.args.begin
units_from_begin c = omega (arith, half_len, ap length c.units_after-trail.ensures.units, length-append {A = ℕ}, length-drop {A = ℕ})

pub first_units-lead-requires : goal.first_units-lead-requires
first_units-lead-requires c = omega (arith, units_from_begin c, c.requires.within)

pub returns : goal.returns
returns c =
    let before = (goal.at.returns c).After-from in
    let u = view_units c.args.self.now in
    let half = c.units_after-trail.result.0 in
    let held = option_to_list half in
    let rest = view_units c.units_after-trail.result.1 in
    let n = c.args.end - c.args.begin - c.from.result in
    let end : c.args.begin + (length held + n) ≡ c.args.end = omega (arith, trail_before_end before, half_len before, c.requires.order) in
    let own = c.first_units-lead.ensures.lead in
    record {
      units = ap (λ v. held ++ v) c.first_units-lead.ensures.units
          ∙ (sym (take-append-add held rest n) ∙ (ap (take (length held + n)) c.units_after-trail.ensures.units
          ∙ (sym (drop-take c.args.begin (length held + n) u) ∙ ap (λ k. drop c.args.begin (take k u)) end)));
      trail = λ _. c.units_after-trail.ensures.trail;
      lead = λ less.
          let same = divides_after u rest half c.args.begin n end (omega (arith, c.requires.within, less)) c.units_after-trail.ensures.units
          c.units_after-trail.ensures.trail
          (omega (arith, less, half_len before)) (omega (arith, units_from_begin before, c.requires.within)) in
          (λ s. same.0 (own.0 s), λ m. own.1 (same.1 m));
    }
