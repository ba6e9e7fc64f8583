use Rattle.wtf8.proofs.Common.{◌≡◌, ◌-◌, IsForm, arith, drop, length, length-drop, subst, sym, take, take_all}
use Rattle.wtf8.proofs.lemmas.from_utf16.EncodedLen.{rest_form, rest_form-fits, rest_form-is, rest_form-most}
use Rattle.wtf8.proofs.from_utf16.room.reserve_rest.Goals.{After-encoded_len}
use Rattle.wtf8.proofs.from_utf16.room.reserve_rest.Goals as goal

-- the number of bytes that are counted
counted : (g : _) (c : After-encoded_len g) → c.encoded_len.result ≡ length (rest_form c.args.v.now c.args.at)
counted g c =
    let v = c.args.v.now in
    let at = c.args.at in
    let all : take (length v - at) (drop at v) ≡ drop at v = take_all (length v - at) (drop at v) (omega (arith, length-drop at v)) in
    c.encoded_len.ensures (rest_form v at) (subst (IsForm (rest_form v at)) (sym all) (rest_form-is v at c.type_inv.v).form)

pub overflow_add-encoded : goal.overflow_add-encoded
overflow_add-encoded g c = record {
  fits = omega (arith, counted g (goal.at.overflow_add-encoded g c).After-encoded_len, rest_form-most c.args.v.now c.args.at c.type_inv.v);
}

pub returns-clause-room : goal.returns-clause-room
returns-clause-room g c w e room = c.reserve.ensures.room (omega (
  arith,
  rest_form-fits c.args.bytes.now w c.type_inv.v c.requires.within room,
  counted g (goal.at.returns-clause-room g c).After-encoded_len,
))
