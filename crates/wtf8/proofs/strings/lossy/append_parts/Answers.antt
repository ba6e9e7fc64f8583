use Rattle.wtf8.proofs.Common.{◌≡◌, ◌<◌, ◌++◌, length, take, drop, ap, sym, ◌∙◌, arith, false≢true, take_rest, length-drop}
use Rattle.std.specs.Str.Lossy.{replacement_bytes, utf8_lossy}
use Rattle.wtf8.proofs.lemmas.strings.LossyTexts.{begins_after, last_part, part_within, parts_begin, parts_next, some_wrong, text_whole}
use Rattle.wtf8.proofs.lemmas.strings.LossyTexts.{text_after, wrong_within}
use Rattle.wtf8.proofs.strings.lossy.append_parts.Goals as goal

pub parts-init : goal.parts-init
parts-init g c = record { read = parts_begin _ _; capacity = omega arith }

pub returns-then-rest-valid-clause-ok : goal.returns-then-rest-valid-clause-ok
returns-then-rest-valid-clause-ok g c =
    let call = c.append_bytes in
    text_whole _ _ call.result c.parts.invariant.read call.ensures.ok
    (last_part c.parts.invariant.read (c.first_part-valid.ensures.whole c.if-rest-valid.true))

pub returns-then-rest-valid-clause-begins : goal.returns-then-rest-valid-clause-begins
returns-then-rest-valid-clause-begins g c =
    let call = c.append_bytes in
    begins_after _ _ call.result c.parts.invariant.read call.ensures.ok call.ensures.err

pub returns-then-rest-valid-clause-room : goal.returns-then-rest-valid-clause-room
returns-then-rest-valid-clause-room g c fits =
    let whole = last_part c.parts.invariant.read (c.first_part-valid.ensures.whole c.if-rest-valid.true) in
    c.append_bytes.ensures.room (omega (arith, fits, ap length whole, c.parts.invariant.capacity))

pub returns-in_err-append_with_replacement-clause-begins :
    goal.returns-in_err-append_with_replacement-clause-begins
returns-in_err-append_with_replacement-clause-begins g c =
    let call = c.append_with_replacement in
    begins_after _ _ call.result c.parts.invariant.read call.ensures.ok call.ensures.err

pub returns-in_err-append_with_replacement-clause-room :
    goal.returns-in_err-append_with_replacement-clause-room
returns-in_err-append_with_replacement-clause-room g c fits =
    let part = c.first_part-valid in
    let some : part.result.0 < length c.parts.rest.now = omega (arith, c.if-rest-valid.false) in
    let step = text_after c.parts.rest.now part.result.0 (part.ensures.valid some) part.result.1 (sym (part.ensures.wrong some)) in
    let within = part_within _ _ c.parts.invariant.read step in
    absurd (false≢true (c.in_err-append_with_replacement.ensures.room (omega (arith, fits, within, c.parts.invariant.capacity))))

pub slice_bounds-rest-count : goal.slice_bounds-rest-count
slice_bounds-rest-count g c =
    let part = c.first_part-valid in
    let some : part.result.0 < length c.parts.rest.now = omega (arith, c.if-rest-valid.false) in
    omega (arith, part.ensures.wrong some, wrong_within (drop part.result.0 c.parts.rest.now), ap length c.split_at.ensures.back)

pub slice_bounds-rest-start : goal.slice_bounds-rest-start
slice_bounds-rest-start g c = slice_bounds-rest-count g c

pub parts-smaller : goal.parts-smaller
parts-smaller g c =
    let rest = c.parts.rest.now in
    let part = c.first_part-valid in
    let some : part.result.0 < length rest = omega (arith, c.if-rest-valid.false) in
    let later = drop part.result.0 rest in
    let long = length-drop part.result.0 rest in
    rw take_rest (omega (
      arith,
      some,
      long,
      part.ensures.wrong some,
      some_wrong later (omega (arith, some, long)),
      wrong_within later,
      ap length c.split_at.ensures.back,
      length-drop part.result.1 c.split_at.result.1.now,
    ))

pub parts-preserved : goal.parts-preserved
parts-preserved g c =
    let rest = c.parts.rest.now in
    let part = c.first_part-valid in
    let some : part.result.0 < length rest = omega (arith, c.if-rest-valid.false) in
    let step = text_after rest part.result.0 (part.ensures.valid some) part.result.1 (sym (part.ensures.wrong some)) in
    let back : c.split_at.result.1.now ≡ drop part.result.0 rest = c.split_at.ensures.back in
    let call = c.in_ok-append_with_replacement.ensures in
    rw take_rest record {
      read = parts_next _ c.parts.invariant.read call.ok
          ((λ i. (take part.result.0 rest ++ replacement_bytes) ++ utf8_lossy (drop part.result.1 (back i))) ∙ step);
      capacity = omega (arith, c.parts.invariant.capacity, call.capacity);
    }
