use Rattle.wtf8.proofs.Common.{ap, arith, length, refl, units, ExtendsFormOrKeeps, chars, rules, common_steps}
use Rattle.wtf8.proofs.lemmas.strings.ExtendedForms.{units_appended, kept_contents, room_found, utf8_prefix_after_append, scalar_text}
use Rattle.wtf8.proofs.lemmas.strings.ExtendedForms.{well_formed_text}
use Rattle.wtf8.proofs.lemmas.strings.StringLaws.{nothing_appended}
use Rattle.wtf8.proofs.lemmas.codec.Readings.{points-nil}
use Rattle.wtf8.proofs.buffers.buf.Wtf8Buf.push_str.Goals as goal

pub invariant_of-self-inside : goal.invariant_of-self-inside
invariant_of-self-inside g c =
    let own = c.self.inside in
    let other = well_formed_text c.args.other.now c.utf8.other in
    utf8_prefix_after_append c.push_str.result other.points own.utf8_prefix.len own.utf8_prefix.len own.well_formed refl other.clean
    own.scalar_prefix (omega arith)
    (λ _. scalar_text c.utf8.other) (record { whole = _; extends = c.push_str.ensures.units; becomes = c.push_str.ensures.bytes })

pub returns : goal.returns
returns g c =
    let call = c.push_str in
    let form : ExtendsFormOrKeeps c.self.inside.bytes (units (chars c.args.other.now)) call.new.bytes call.result =
    record { whole = _; extends = call.ensures.units; becomes = call.ensures.bytes } in
    let ok = units_appended _ _ c.self-1.given.0 c.self.view_is refl form in
    let kept = kept_contents _ _ _ c.self.view_is refl refl form in
    let other = well_formed_text c.args.other.now c.utf8.other in
    record {
      ok = ok;
      kept = kept;
      room = room_found _ _ c.self.view_is refl refl form;
      empty = search rules;
      capacity = search rules;
      at_most = grind (arith, common_steps);
      room_left = grind (arith, common_steps);
      nothing = λ e. nothing_appended call.result _ _ _ (ap units (points-nil other (ap length e))) ok kept;
    }
