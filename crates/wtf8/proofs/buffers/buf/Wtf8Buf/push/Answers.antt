use Rattle.wtf8.proofs.Common.{number, refl, ap, on_ok_weaker, ◌∙◌, ◌++◌, rules, form_of}
use Rattle.wtf8.proofs.lemmas.strings.ExtendedForms.{units_appended, kept_contents, room_found, utf8_prefix_after_push, point_form}
use Rattle.wtf8.proofs.lemmas.codec.Readings.{units_one}
use Rattle.wtf8.proofs.lemmas.strings.StringLaws.{grows_at_most, room_left}
use Rattle.wtf8.proofs.buffers.buf.Wtf8Buf.push.Goals as goal

pub invariant_of-self-inside : goal.invariant_of-self-inside
invariant_of-self-inside g c =
    let own = c.self.inside in
    let call = c.push in
    utf8_prefix_after_push call.result (number c.args.code_point) own.utf8_prefix.len _ own.well_formed c.args.code_point.in_range
    own.scalar_prefix call.ensures.order call.ensures.scalar call.ensures.extends

pub returns : goal.returns
returns g c =
    let point = point_form (number c.args.code_point) c.args.code_point.in_range in
    let ok = units_appended _ _ c.self-1.given.0 c.self.view_is refl c.push.ensures.extends in
    let room = room_found _ _ c.self.view_is refl refl c.push.ensures.extends in
    record {
      ok = ok;
      kept = kept_contents _ _ _ c.self.view_is refl refl c.push.ensures.extends;
      one_unit = λ low. on_ok_weaker c.push.result
          (λ e. e ∙ ap (λ u. c.args.self.now.units ++ u) (units_one (number c.args.code_point) low)) ok;
      room = room;
      capacity = search rules;
      at_most = grows_at_most c.push.result c.args.self.now _ _ (form_of c.self-1.given.0) point ok;
      room_left = λ h. room (room_left c.args.self.now _ _ point h);
    }
