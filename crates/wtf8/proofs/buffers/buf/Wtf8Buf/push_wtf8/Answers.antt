use Rattle.wtf8.proofs.Common.{IsForm, ◌++◌, ◌∙◌, subst, sym, append-nil, ap, arith, length, refl, units, view_units, view_form, form_of}
use Rattle.wtf8.proofs.Common.{AreScalarTo, rules}
use Rattle.wtf8.proofs.lemmas.strings.ExtendedForms.{units_appended, kept_contents, room_found, utf8_prefix_after_append}
use Rattle.wtf8.proofs.lemmas.strings.StringLaws.{grows_at_most, added_length, nothing_appended, room_left}
use Rattle.wtf8.proofs.lemmas.codec.Readings.{points-nil, same_points}
use Rattle.wtf8.proofs.buffers.buf.Wtf8Buf.push_wtf8.Goals as goal

pub push_wtf8-requires-clause-scalar_prefix : goal.push_wtf8-requires-clause-scalar_prefix
push_wtf8-requires-clause-scalar_prefix g c h =
    let own = c.self.inside in
    subst (AreScalarTo own.utf8_prefix.len) (same_points own.well_formed h refl) own.scalar_prefix

pub invariant_of-self-inside : goal.invariant_of-self-inside
invariant_of-self-inside g c =
    let other = c.args.other.well_formed in
    let own = c.self.inside in
    let prefix = c.push_wtf8.ensures in
    utf8_prefix_after_append c.push_wtf8.result other.points own.utf8_prefix.len _ own.well_formed refl other.clean own.scalar_prefix
    prefix.order prefix.scalar c.push_wtf8.ensures.extends

pub returns : goal.returns
returns g c =
    let s = c.args.self.now in
    let other = c.args.other in
    let ok = units_appended _ _ c.self-1.given.0 c.self.view_is refl c.push_wtf8.ensures.extends in
    let kept = kept_contents _ _ _ c.self.view_is refl refl c.push_wtf8.ensures.extends in
    let room = room_found _ _ c.self.view_is refl refl c.push_wtf8.ensures.extends in
    record {
      ok = ok;
      kept = kept;
      length = added_length c.push_wtf8.result _ _ other ok;
      room = room;
      empty = λ e.
          let form = subst (IsForm s.bytes) (sym (append-nil s.units) ∙ ap (λ u. s.units ++ u) (sym e)) s.form in
          room (record { whole = s.bytes; form = form; within = omega (arith, s.fits) });
      capacity = search rules;
      at_most = grows_at_most c.push_wtf8.result s _ (view_units other) (form_of c.self-1.given.0) (view_form other) ok;
      room_left = λ h. room (room_left s _ (view_units other) (view_form other) h);
      nothing = λ e. nothing_appended c.push_wtf8.result _ _ _ (ap units (points-nil other.well_formed (ap length e))) ok kept;
    }
