use Rattle.wtf8.proofs.Common.{IsForm, ◌++◌, ◌∙◌, ◌*◌, ◌≤◌, subst, sym, append-nil, ap, arith, length, refl, AreScalarTo, form_of, rules}
use Rattle.wtf8.proofs.Common.{on_ok_weaker}
use Rattle.wtf8.proofs.lemmas.codec.Readings.{lists_have_lengths, same_points}
use Rattle.wtf8.proofs.lemmas.strings.Concatenation.{one_form}
use Rattle.wtf8.proofs.lemmas.strings.ExtendedForms.{kept_contents, room_found, units_appended}
use Rattle.wtf8.proofs.lemmas.strings.PushedUnits.{are_units, utf8_prefix_after_units}
use Rattle.wtf8.proofs.lemmas.strings.StringLaws.{grows_at_most, nothing_appended, room_left}
use Rattle.wtf8.proofs.buffers.buf.Wtf8Buf.push_ill_formed_utf16.Goals as goal

pub push_units-requires-clause-scalar_prefix : goal.push_units-requires-clause-scalar_prefix
push_units-requires-clause-scalar_prefix g c h =
    let own = c.self.inside in
    subst (AreScalarTo own.utf8_prefix.len) (same_points own.well_formed h refl) own.scalar_prefix

pub invariant_of-self-inside : goal.invariant_of-self-inside
invariant_of-self-inside g c =
    let own = c.self.inside in
    let call = c.push_units in
    utf8_prefix_after_units call.result own.utf8_prefix.len _ own.well_formed (are_units c.args.v.now c.type_inv.v) own.scalar_prefix
    call.ensures.order call.ensures.scalar call.ensures.extends

pub returns : goal.returns
returns g c =
    let s = c.args.self.now in
    let v = c.args.v.now in
    let one = one_form v (are_units v c.type_inv.v) in
    let most : length one.one ≤ 3 * length v =
    omega (arith, (lists_have_lengths one.has.points).units_most, ap length one.has.encoded, ap length one.has.reads.same_units) in
    let ok = units_appended _ _ c.self-1.given.0 c.self.view_is refl c.push_units.ensures.extends in
    let kept = kept_contents _ _ _ c.self.view_is refl refl c.push_units.ensures.extends in
    let room = room_found _ _ c.self.view_is refl refl c.push_units.ensures.extends in
    record {
      ok = ok;
      kept = kept;
      room = room;
      empty = λ e.
          let form = subst (IsForm s.bytes) (sym (append-nil s.units) ∙ ap (λ u. s.units ++ u) (sym e)) s.form in
          room (record { whole = s.bytes; form = form; within = omega (arith, s.fits) });
      capacity = search rules;
      at_most = on_ok_weaker c.push_units.result (λ n. omega (arith, n, most))
          (grows_at_most c.push_units.result s one.one v (form_of c.self-1.given.0) one.has ok);
      room_left = λ h. room (room_left s one.one v one.has (omega (arith, h, most)));
      nothing = λ e. nothing_appended c.push_units.result _ _ _ e ok kept;
    }
