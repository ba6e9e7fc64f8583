use Rattle.wtf8.proofs.Common.{◌<◌, rules, refl, inl, inr, sym, subst, arith, Some, peekable_steps, peekable_peeked, IsLead, IsTrail, true≢false}
use Rattle.wtf8.proofs.lemmas.codec.Readings.{units_one, units_pair}
use Rattle.wtf8.proofs.lemmas.from_utf16.Decoding.{item_of_unit, peeked_no_trail}
use Rattle.wtf8.proofs.from_utf16.decode.DecodeUtf16Iterator.next.Goals as goal

pub returns-in-Some-clause-steps : goal.returns-in-Some-clause-steps
returns-in-Some-clause-steps g c =
    let told = c.in-Some.ensures.cases in
    let steps = g.I.Iterator.next_gives in
    let unit = c.in_ok-unit.unit in
    let trail = c.in-Some.trail in
    let is_lead : IsLead unit = search rules in
    let is_trail : IsTrail trail = search rules in
    let second : peekable_steps steps c.next.new.self (Some trail) c.next_if.new.self = (told.2.1, rw told.2.0 at told.1) in
    record {
      kind = (omega (arith, c.char_of_pair.ensures), λ s. omega (arith, c.char_of_pair.ensures, s));
      after = c.next_if.new.self;
      taken = rw (c.char_of_pair.ensures, units_pair unit trail is_lead is_trail)
          (c.next.new.self, c.in_ok-unit.ensures.steps, (c.next_if.new.self, second, refl));
      held = inl refl;
      lone = λ lead. absurd (omega (arith, c.char_of_pair.ensures, lead));
    }

pub returns-in-None-clause-steps : goal.returns-in-None-clause-steps
returns-in-None-clause-steps g c =
    let told = c.in-None.ensures.cases in
    let unit = c.in_ok-unit.unit in
    record {
      kind = search rules;
      after = c.next.new.self;
      taken = rw (units_one unit (omega arith)) (c.next.new.self, c.in_ok-unit.ensures.steps, refl);
      held = inr (told.0, told.1, told.2);
      lone = λ _. peeked_no_trail (peekable_peeked c.next_if.new.self) told.0 _ told.2 c.in-None.ensures.refused
          (λ u failed trail. true≢false (sym (failed.1.1 (subst IsTrail (sym failed.2) trail))));
    }

pub returns-then-unit-lt-FIRST_LEAD-clause-steps : goal.returns-then-unit-lt-FIRST_LEAD-clause-steps
returns-then-unit-lt-FIRST_LEAD-clause-steps g c =
    let below = c.if-unit-lt-FIRST_LEAD.true in
    item_of_unit g.I.Iterator.next_gives c.args.self.now.units c.next.new.self c.in_ok-unit.unit c.char_or_surrogate.result
    c.char_or_surrogate.ensures.kind c.char_or_surrogate.ensures.point (omega (arith, below)) (λ l. omega (arith, below, l.0))
    c.in_ok-unit.ensures.steps

pub returns-in_default-clause-steps : goal.returns-in_default-clause-steps
returns-in_default-clause-steps g c =
    let unit = c.in_ok-unit.unit in
    let range : unit < 0x10000 = search rules in
    let not_lead : ¬ (IsLead unit) = λ lead. search (rules, lead) in
    item_of_unit g.I.Iterator.next_gives c.args.self.now.units c.next.new.self unit c.char_or_surrogate-in_default.result
    c.char_or_surrogate-in_default.ensures.kind c.char_or_surrogate-in_default.ensures.point range not_lead c.in_ok-unit.ensures.steps
