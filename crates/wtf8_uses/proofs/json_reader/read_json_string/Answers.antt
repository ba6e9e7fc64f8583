use Rattle.std.proofs.Common.{◌≡◌, ◌-◌, arith}
use Rattle.wtf8.specs.View.{view_points}
use Rattle.wtf8_uses.specs.JsonString.{BeginsWithCharacters, IsMalformedAt}
use Rattle.wtf8_uses.proofs.JsonReaderLemmas.{characters_more, front_counted, front_follows, front_more, front_of_characters, no_string}
use Rattle.wtf8_uses.proofs.json_reader.read_json_string.Goals as goal

pub returns-in_default-clause-none : goal.returns-in_default-clause-none
returns-in_default-clause-none g c = λ _ u after s. c.in_default.ensures.none s.start s.opened

pub loop-point-init : goal.loop-point-init
loop-point-init g c = rw c.new-string.ensures.units (BeginsWithCharacters.none (view_points c.in-Some.start))

pub loop-point-preserved : goal.loop-point-preserved
loop-point-preserved g c = rw c.in-Ok.ensures.ok (characters_more c.loop-point.invariant c.in-Some-first_character.ensures.some)

pub overflow_sub-result : goal.overflow_sub-result
overflow_sub-result g c =
    let front = front_more c.in-Some.ensures.some.joined (front_of_characters c.loop-point.invariant) in
    let counted = front_counted c.args.text.bytes.now c.loop-point.rest.bytes.now front c.args.text.well_formed.encoded
    c.loop-point.rest.well_formed.encoded in
    omega (arith, counted)

pub returns-in_default-after_quote-clause-malformed : goal.returns-in_default-after_quote-clause-malformed
returns-in_default-after_quote-clause-malformed g c = λ position cause e.
    let front = front_more c.in-Some.ensures.some.joined (front_of_characters c.loop-point.invariant) in
    let counted = front_counted c.args.text.bytes.now c.loop-point.rest.bytes.now front c.args.text.well_formed.encoded
    c.loop-point.rest.well_formed.encoded in
    let here : c.len.result - c.len-in_default-after_quote.result ≡ position = cc e in
    IsMalformedAt.stopped _ _ _ (front_follows front position (omega arith)) c.in-Some.ensures.some c.loop-point.invariant
    c.in_default-first_character.ensures.none c.in_default-after_quote.ensures.none

pub returns-in_default-after_quote-clause-none : goal.returns-in_default-after_quote-clause-none
returns-in_default-after_quote-clause-none g c = λ _.
    no_string c.in-Some.ensures.some c.loop-point.invariant c.in_default-first_character.ensures.none c.in_default-after_quote.ensures.none

pub returns-in_default-after_quote-clause-cause : goal.returns-in_default-after_quote-clause-cause
returns-in_default-after_quote-clause-cause g c = λ position cause e.
    let front = front_more c.in-Some.ensures.some.joined (front_of_characters c.loop-point.invariant) in
    let counted = front_counted c.args.text.bytes.now c.loop-point.rest.bytes.now front c.args.text.well_formed.encoded
    c.loop-point.rest.well_formed.encoded in
    let here : c.len.result - c.len-in_default-after_quote.result ≡ position = cc e in
    let why : cause ≡ c.cause_at.result = cc e in
    record {
      rest = view_points c.loop-point.rest;
      follows = front_follows front position (omega arith);
      is_cause = rw why c.cause_at.ensures;
    }
