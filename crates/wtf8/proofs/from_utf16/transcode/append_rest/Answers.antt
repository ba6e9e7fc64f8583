use Rattle.wtf8.proofs.Common.{◌≡◌, ◌≤◌, ◌++◌, false≢true, ◌∙◌, [], append-nil, ap, arith, iter_rest, iter_steps, copied_steps, sym, subst, refl, decode_steps}
use Rattle.wtf8.proofs.Common.{IsCodePoint, IsSurrogate, MatchResult, AreScalar, map-append, ◌∷◌, map, point_of_item, length, encoding, bytes, HasRoomFrom}
use Rattle.wtf8.proofs.Common.{vec_capacity, ℕ}
use Rattle.std.specs.Iterator.{Yields}
use Rattle.std.specs.Iterator.Adapters.{copied_source}
use Rattle.wtf8.proofs.lemmas.codec.Scalars.{scalar-append}
use Rattle.wtf8.proofs.lemmas.from_utf16.Decoding.{encoded_item, form_of_items, rest_read, yields-append}
use Rattle.wtf8.proofs.from_utf16.transcode.append_rest.Goals.{In-Some}
use Rattle.wtf8.proofs.from_utf16.transcode.append_rest.Goals as goal

pub loop-item-init : goal.loop-item-init
loop-item-init g c = record { encoded = sym (append-nil c.args.bytes.now.items); flags = λ t. (t, tt); capacity = omega arith }

pub loop-item-preserved-in-Continue-1 : goal.loop-item-preserved-in-Continue-1
loop-item-preserved-in-Continue-1 g c =
    let same = ap point_of_item c.in-Ok.is in
    let not_surrogate =
    (subst (λ x. MatchResult x (λ c. IsCodePoint c × ¬ (IsSurrogate c)) IsSurrogate) c.in-Ok.is c.in-Some.ensures.steps.kind).1 in record {
      encoded = encoded_item c.args.bytes.now.items c.loop-item.yielded c.in-Some.item c.loop-item.invariant.encoded
          c.in_ok-append-in-Ok.ensures.ok (same ∙ sym c.from_char.ensures);
      flags = λ t. (
        (c.loop-item.invariant.flags t).0,
        (subst AreScalar (sym (map-append point_of_item c.loop-item.yielded (c.in-Some.item ∷ [])))
            (scalar-append (map point_of_item c.loop-item.yielded) (point_of_item c.in-Some.item ∷ []) (c.loop-item.invariant.flags t).1
            ((subst (λ p. ¬ (IsSurrogate p)) (sym same) not_surrogate), tt))),
      );
      capacity = omega (arith, c.loop-item.invariant.capacity, c.in_ok-append-in-Ok.ensures.capacity);
    }

pub loop-item-preserved : goal.loop-item-preserved
loop-item-preserved g c = record {
  encoded = encoded_item c.args.bytes.now.items c.loop-item.yielded c.in-Some.item c.loop-item.invariant.encoded
      c.in_ok-append-in-Err.ensures.ok (ap point_of_item c.in-Err.is ∙ sym c.from_unit.ensures);
  flags = λ t. absurd (false≢true t);
  capacity = omega (arith, c.loop-item.invariant.capacity, c.in_ok-append-in-Err.ensures.capacity);
}

-- the bytes after one more item fit, if all units do
item_fits : (g : _) (c : In-Some g) (p : ℕ) → point_of_item c.in-Some.item ≡ p
    → HasRoomFrom c.args.bytes.now c.args.v.now c.args.from.at c.args.from.is_utf8
    → length (c.loop-item.bytes.items ++ encoding p) ≤ vec_capacity c.loop-item.bytes
item_fits g c p point room =
    let items = c.loop-item.yielded in
    let all = items ++ c.in-Some.item ∷ [] in
    let start = c.decode_utf16-item-items.result in
    let rest = ap (λ s. iter_rest (copied_source s)) c.decode_utf16-item-items.ensures.source ∙ ap iter_rest c.copied.ensures.source
    ∙ c.iter.ensures.rest in
    let before = subst (λ s. Yields (decode_steps (copied_steps iter_steps)) s items c.loop-item.item-iterator)
    c.into_iter-item-iterator.ensures.into_iter_gives c.loop-item.yielded_by in
    let yields = yields-append (decode_steps (copied_steps iter_steps)) start c.loop-item.item-iterator c.next.new.self items
    (c.in-Some.item ∷ []) before (c.next.new.self, c.in-Some.ensures.steps, refl) in
    let form = form_of_items all start c.next.new.self room.1 c.decode_utf16-item-items.ensures.peeked rest yields in
    let same : c.loop-item.bytes.items ++ encoding p ≡ c.args.bytes.now.items ++ bytes (map point_of_item all) =
    encoded_item c.args.bytes.now.items items c.in-Some.item c.loop-item.invariant.encoded refl point in
    omega (arith, ap length same, room.2 form.0 _ form.1, c.loop-item.invariant.capacity)

pub returns-in_err-append-in-Ok-clause-room : goal.returns-in_err-append-in-Ok-clause-room
returns-in_err-append-in-Ok-clause-room g c room = absurd (false≢true (c.in_err-append-in-Ok.ensures.room
    (item_fits g (goal.at.returns-in_err-append-in-Ok-clause-room g c).In-Some _
    (ap point_of_item c.in-Ok.is ∙ sym c.from_char.ensures) room)))

pub returns-in_err-append-in-Err-clause-room : goal.returns-in_err-append-in-Err-clause-room
returns-in_err-append-in-Err-clause-room g c room = absurd (false≢true (c.in_err-append-in-Err.ensures.room
    (item_fits g (goal.at.returns-in_err-append-in-Err-clause-room g c).In-Some _
    (ap point_of_item c.in-Err.is ∙ sym c.from_unit.ensures) room)))

pub returns-clause-ok : goal.returns-clause-ok
returns-clause-ok g c front read =
    let items = c.loop-item.yielded in
    let same = c.into_iter-item-iterator.ensures.into_iter_gives in
    let by = subst (λ s. Yields (decode_steps (copied_steps iter_steps)) s items c.loop-item.item-iterator) same c.loop-item.yielded_by in
    rest_read items c.copied.result read (ap iter_rest c.copied.ensures.source ∙ c.iter.ensures.rest)
    (c.decode_utf16-item-items.ensures.reads items (c.next.new.self, (c.loop-item.item-iterator, by, c.in-None.ensures.steps)))
    c.loop-item.invariant.encoded c.loop-item.invariant.flags
