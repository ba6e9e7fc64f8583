use Rattle.wtf8.proofs.Common.{ap, arith, length-append, on_ok_weaker, refl, ExtendsFormOrKeeps, units_of, ◌++◌, rules, common_steps}
use Rattle.wtf8.proofs.lemmas.strings.ExtendedForms.{units_appended, kept_contents, room_found, utf8_prefix_after_push, scalar_facts}
use Rattle.wtf8.proofs.lemmas.codec.Encoding.{encoding_one}
use Rattle.wtf8.proofs.lemmas.codec.Readings.{units_one}
use Rattle.wtf8.proofs.buffers.buf.Wtf8Buf.push_char.Goals as goal

pub invariant_of-self-inside : goal.invariant_of-self-inside
invariant_of-self-inside g c =
    let f = scalar_facts c.args.c c.ranges.c.0 in
    let own = c.self.inside in
    utf8_prefix_after_push c.push_char.result c.args.c own.utf8_prefix.len own.utf8_prefix.len own.well_formed f.0 own.scalar_prefix
    (omega arith) (λ _. f.1) (record { whole = _; extends = c.push_char.ensures.units; becomes = c.push_char.ensures.bytes })

pub returns : goal.returns
returns g c =
    let call = c.push_char in
    let form : ExtendsFormOrKeeps c.self.inside.bytes (units_of c.args.c) call.new.bytes call.result =
    record { whole = _; extends = call.ensures.units; becomes = call.ensures.bytes } in
    let ok = units_appended _ _ c.self-1.given.0 c.self.view_is refl form in
    record {
      ok = ok;
      kept = kept_contents _ _ _ c.self.view_is refl refl form;
      one_unit = λ low. on_ok_weaker call.result (λ e. cc (e, ap (λ u. c.args.self.now.units ++ u) (units_one c.args.c low))) ok;
      room = room_found _ _ c.self.view_is refl refl form;
      capacity = search rules;
      bytes = grind (arith, common_steps);
      at_most = grind (arith, common_steps);
      room_left = grind (arith, common_steps);
      ascii_length = λ low. grind (arith, encoding_one, on_ok_weaker, length-append, call.ensures.bytes.ok);
      ascii_room = λ low h. grind (arith, encoding_one, length-append, call.ensures.bytes.room);
    }
