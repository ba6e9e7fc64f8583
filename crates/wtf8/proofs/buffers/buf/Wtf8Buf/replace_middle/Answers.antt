use Rattle.wtf8.proofs.Common.{◌≡◌, ◌∙◌, ◌++◌, ℕ, List, ap, sym, arith, refl, bytes, take, drop, option_to_list, IsForm, IsUnit, All, UnitString}
use Rattle.std.proofs.lemmas.List.Elements.{All-append}
use Rattle.wtf8.specs.Editing.{spliced}
use Rattle.wtf8.specs.private.EncodedBytes.{BecomesOrKeeps}
use Rattle.wtf8.specs.private.Middles.{middle_units}
use Rattle.wtf8.proofs.lemmas.codec.Encoding.{bytes-append}
use Rattle.wtf8.proofs.lemmas.codec.Readings.{same_points}
use Rattle.wtf8.proofs.lemmas.strings.Concatenation.{one_form}
use Rattle.wtf8.proofs.lemmas.strings.Editing.{edited, room_for_form, some_weaker, unchanged, unit_of_surrogate, units_replaced, utf8_prefix_after_edit}
use Rattle.wtf8.proofs.lemmas.strings.Positions.{cut_by}
use Rattle.wtf8.proofs.lemmas.buffers.UnitEdits.{rounded_in_order}
use Rattle.wtf8.proofs.buffers.buf.Wtf8Buf.replace_middle.Goals.{After-replace}
use Rattle.wtf8.proofs.buffers.buf.Wtf8Buf.replace_middle.Goals as goal

pub replace-requires-clause-order : goal.replace-requires-clause-order
replace-requires-clause-order g c =
    let s = c.args.self.now in
    omega (arith, rounded_in_order s.form c.requires.from c.requires.to c.requires.begin c.requires.end c.requires.order)

-- the surrogates beside the new units, and these
abbrev middle : (g : _) → After-replace g → List ℕ
middle g c = option_to_list c.cut_before-before.result.surrogate ++ (middle_units c.args.middle ++ option_to_list c.cut_after-after.result.surrogate)

all : (g : _) (c : After-replace g) → All IsUnit (middle g c)
all g c =
    let head = c.cut_before-before.result.surrogate in
    let tail = c.cut_after-after.result.surrogate in
    All-append IsUnit (option_to_list head) (middle_units c.args.middle ++ option_to_list tail)
    (unit_of_surrogate head (some_weaker head (λ l lead. omega (arith, lead)) c.cut_before-before.ensures.lead))
    (All-append IsUnit (middle_units c.args.middle) (option_to_list tail) c.requires.units
    (unit_of_surrogate tail (some_weaker tail (λ t trail. omega (arith, trail)) c.cut_after-after.ensures.trail)))

points : (g : _) (c : After-replace g) → c.self.inside.well_formed.points ≡ c.as_wtf8-view.result.well_formed.points
points g c = same_points c.self.inside.well_formed c.as_wtf8-view.result.well_formed
    (ap (λ (t : UnitString). t.bytes) c.self.view_is ∙ sym c.as_wtf8-view.ensures.bytes)

-- the bytes that are asked for
abbrev whole : (g : _) → After-replace g → List ℕ
whole g c =
    let old = c.self.inside.bytes.items in
    take c.cut_before-before.result.position old ++ ((one_form (middle g c) (all g c)).one ++ drop c.cut_after-after.result.position old)

form : (g : _) (c : After-replace g) → IsForm (whole g c) (spliced c.args.self.now.units c.args.begin c.args.end (middle_units c.args.middle))
form g c = edited c.self.inside.well_formed (points g c) c.as_wtf8-view.ensures.units c.cut_before-before.ensures.cut
    c.cut_after-after.ensures.cut (middle_units c.args.middle) (one_form (middle g c) (all g c)).has

becomes : (g : _) (c : After-replace g) → BecomesOrKeeps c.self.inside.bytes (whole g c) c.replace.new.bytes c.replace.result
becomes g c = let one = one_form (middle g c) (all g c) in c.replace.ensures one.one one.has

pub invariant_of-self-inside : goal.invariant_of-self-inside
invariant_of-self-inside g c =
    let here = (goal.at.invariant_of-self-inside g c).After-replace in
    let own = c.self.inside in
    let l = c.cut_before-before.ensures.cut in
    let r = c.cut_after-after.ensures.cut in
    let one = (one_form (middle g here) (all g here)).has in
    let left = cut_by own.well_formed l.front l.back c.cut_before-before.result.position (points g here ∙ l.joined) l.front_len in
    let right = cut_by own.well_formed r.front r.back c.cut_after-after.result.position (points g here ∙ r.joined) r.front_len in
    let later = one.points ++ r.back in
    let same : whole g here ≡ bytes l.front ++ bytes later = cc (left.before.encoded, right.after.encoded, one.encoded, bytes-append one.points r.back) in
    utf8_prefix_after_edit (form g here) (becomes g here) own.well_formed l.front l.back later own.utf8_prefix.len
    c.up_to-self-inside.result.len (points g here ∙ l.joined) own.scalar_prefix c.up_to-self-inside.ensures.order
    (omega (arith, l.front_len, c.up_to-self-inside.ensures.within)) same

pub returns-clause-ok : goal.returns-clause-ok
returns-clause-ok g c =
    let here = (goal.at.returns-clause-ok g c).After-replace in
    units_replaced (form g here) (becomes g here) c.self-1.given.0

pub returns-clause-kept : goal.returns-clause-kept
returns-clause-kept g c =
    let here = (goal.at.returns-clause-kept g c).After-replace in
    unchanged (form g here) (becomes g here) _ c.args.self.now _ c.self.view_is refl refl

pub returns-clause-room : goal.returns-clause-room
returns-clause-room g c fit =
    let here = (goal.at.returns-clause-room g c).After-replace in
    room_for_form (form g here) (becomes g here) c.args.self.now.capacity (sym (ap (λ (t : UnitString). t.capacity) c.self.view_is)) fit

pub returns-clause-capacity : goal.returns-clause-capacity
returns-clause-capacity g c =
    let here = (goal.at.returns-clause-capacity g c).After-replace in
    omega (arith, (becomes g here).capacity, ap (λ (t : UnitString). t.capacity) c.self.view_is)
