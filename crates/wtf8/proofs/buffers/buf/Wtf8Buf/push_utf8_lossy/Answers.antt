use Rattle.wtf8.proofs.Common.{arith, length, on_ok_weaker, refl, subst, sym, units, chars, ExtendsFormOrKeeps, IsFront, rules}
use Rattle.std.specs.Str.Lossy.{utf8_lossy}
use Rattle.wtf8.proofs.lemmas.strings.ExtendedForms.{units_appended, kept_contents, room_found, utf8_prefix_after_append, scalar_text}
use Rattle.wtf8.proofs.lemmas.strings.ExtendedForms.{well_formed_text}
use Rattle.wtf8.proofs.lemmas.strings.LossyTexts.{is_text, text_apart}
use Rattle.wtf8.proofs.buffers.buf.Wtf8Buf.push_utf8_lossy.Goals as goal

pub invariant_of-self-inside : goal.invariant_of-self-inside
invariant_of-self-inside g c =
    let own = c.self.inside in
    let text = is_text c.args.text.now in
    let other = well_formed_text _ text in
    utf8_prefix_after_append c.push_lossy.result other.points own.utf8_prefix.len own.utf8_prefix.len own.well_formed refl other.clean
    own.scalar_prefix (omega arith)
    (λ _. scalar_text text) (record { whole = _; extends = c.push_lossy.ensures.units; becomes = c.push_lossy.ensures.bytes })

pub returns : goal.returns
returns g c =
    let call = c.push_lossy in
    let text = is_text c.args.text.now in
    let form : ExtendsFormOrKeeps c.self.inside.bytes (units (chars (utf8_lossy c.args.text.now))) call.new.bytes call.result =
    record { whole = _; extends = call.ensures.units; becomes = call.ensures.bytes } in
    let ok = units_appended _ _ c.self-1.given.0 c.self.view_is refl form in
    record {
      ok = ok;
      kept = kept_contents _ _ _ c.self.view_is refl refl form;
      room = room_found _ _ c.self.view_is refl refl form;
      empty = search rules;
      capacity = search rules;
      front = on_ok_weaker call.result (λ e. subst (λ u. IsFront u (length c.args.self.now.bytes) c.args.self.now.units) (sym e) (text_apart c.args.self.now.form _ text)) ok;
    }
