use Rattle.wtf8.proofs.Common.{◌≡◌, ◌∷◌, ◌++◌, ◌∙◌, true, is_ok, ap, arith, append_assoc, rules, take_rest}
use Rattle.wtf8.proofs.lemmas.formatting.HexDigits.{spaced-append_take, spaced-append_rest}
use Rattle.wtf8.proofs.strings.view.Wtf8.append_hex_dump.Goals as goal

pub loop-at-preserved : goal.loop-at-preserved
loop-at-preserved g c =
    let granted : is_ok c.extend_from_slice.result ≡ true = grind (arith) in
    let items = rw granted at c.extend_from_slice.ensures.items in
    let len = rw granted at c.extend_from_slice.ensures.len in
    record {
      within = omega arith;
      written = items ∙ (ap (λ text. c.loop-at.text.items ++ text) c.spaced_block.ensures
          ∙ spaced-append_take _ _ c.in-Some.rest.now c.loop-at.at 16 c.loop-at.invariant.written);
      room = omega (arith, len);
    }

pub returns-clause-ok : goal.returns-clause-ok
returns-clause-ok g c =
    let end = rw take_rest at c.push_spaced.ensures in
    let digits = end
    ∙ spaced-append_rest _ c.push_hex_byte.new.text.items c.in-Some.rest.now c.loop-at.at c.loop-at.invariant.written in
    let parts : c.args.self.now.bytes.now ≡ c.in-Some.first.now ∷ c.in-Some.rest.now = search rules in
    digits ∙ rw (c.push_hex_byte.ensures.items, c.reserve.ensures.items, append_assoc, parts)
