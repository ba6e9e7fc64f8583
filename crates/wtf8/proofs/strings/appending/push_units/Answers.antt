use Rattle.wtf8.proofs.Common.{◌≤◌, ◌++◌, arith, false≢true, ap, leb, length, leb-true, IsReadTo, None, Ok, refl, subst, sym, units}
use Rattle.wtf8.proofs.Common.{AreScalar, Err, ExtendsForm, IsTrue, OnOk, Result, well_formed_of}
use Rattle.wtf8.proofs.lemmas.codec.Readings.{reads_same}
use Rattle.wtf8.proofs.lemmas.codec.Scalars.{IsKnownForm-ascii}
use Rattle.wtf8.proofs.lemmas.strings.ExtendedForms.{ExtendsForm-append, all_scalar, scalar_back_unpaired}
use Rattle.wtf8.proofs.lemmas.strings.PushedUnits.{are_units, fronts_fit, read_start, scalar_units, units_extended, units_refused}
use Rattle.wtf8.proofs.strings.appending.push_units.Goals.{After-append-2}
use Rattle.wtf8.proofs.strings.appending.push_units.Goals as goal

pub returns-then-is_short_ascii-clause-extends : goal.returns-then-is_short_ascii-clause-extends
returns-then-is_short_ascii-clause-extends g c =
    let old = c.args.bytes.now.items in
    let v = c.args.v.now in
    let own = IsKnownForm-ascii v (c.if-is_short_ascii.ensures.ascii refl) in
    record {
      whole = old ++ v;
      extends = subst (ExtendsForm old (old ++ v)) own.form.reads.same_units
          (ExtendsForm-append c.requires.well_formed (well_formed_of own.form) (scalar_back_unpaired (own.scalar refl)));
      becomes = c.append.ensures;
    }

when_ok : {T E P : Type 0} (r : Result T E) → P → OnOk r P
when_ok (Ok x) h = h
when_ok (Err e) h = tt

pub returns-then-is_short_ascii-clause-scalar : goal.returns-then-is_short_ascii-clause-scalar
returns-then-is_short_ascii-clause-scalar g c longer =
    let own = IsKnownForm-ascii c.args.v.now (c.if-is_short_ascii.ensures.ascii refl) in
    when_ok c.append.result (λ points read. subst AreScalar (sym (reads_same read own.form.reads)) (own.scalar refl))

-- the old bytes form no pair with the units
begun : (g : _) (c : After-append-2 g) → IsReadTo c.args.bytes.now.items (units c.requires.well_formed.points) c.args.v.now 0
    (leb c.len-len.result c.args.utf8_prefix.now.len)
begun g c =
    let own = c.requires.well_formed in
    let prefix = c.args.utf8_prefix.now.len in
    let scalar : IsTrue (leb c.len-len.result prefix) → AreScalar own.points = λ within.
    let all : c.len-len.result ≤ prefix = leb-true c.len-len.result prefix within in
    all_scalar own.points prefix (c.requires.scalar_prefix own)
    (omega (arith, all, c.len-len.ensures, ap length own.encoded, c.args.bytes.now.ok.0)) in
    read_start None own refl (λ m. false≢true (c.if-may_complete_lead.ensures own.points scalar m)) scalar

pub returns-in_err-is_utf8-clause-extends : goal.returns-in_err-is_utf8-clause-extends
returns-in_err-is_utf8-clause-extends g c =
    let own = c.requires.well_formed in
    let all = are_units c.args.v.now c.type_inv.v in
    let read = begun g (goal.at.returns-in_err-is_utf8-clause-extends g c).After-append-2 in
    units_refused c.args.bytes.now c.append-2.new.bytes c.from_residual.result own all c.in_err-is_utf8.ensures.kept
    (λ fits. absurd (false≢true (c.in_err-is_utf8.ensures.room (units own.points, read, fronts_fit own c.args.v.now all _ fits))))
    (λ ok. grind (arith, c.from_residual.ensures.0)) c.append-2.ensures.capacity

pub returns-then-not-is_utf8-clause-extends : goal.returns-then-not-is_utf8-clause-extends
returns-then-not-is_utf8-clause-extends g c =
    let own = c.requires.well_formed in
    let read = begun g (goal.at.returns-then-not-is_utf8-clause-extends g c).After-append-2 in
    units_extended c.args.bytes.now c.append-2.new.bytes (Ok tt) own (are_units c.args.v.now c.type_inv.v) refl
    (c.in_ok-is_utf8.ensures.ok (units own.points) read).form c.append-2.ensures.capacity

pub returns-else-not-is_utf8-clause-extends : goal.returns-else-not-is_utf8-clause-extends
returns-else-not-is_utf8-clause-extends g c =
    let own = c.requires.well_formed in
    let read = begun g (goal.at.returns-else-not-is_utf8-clause-extends g c).After-append-2 in
    units_extended c.args.bytes.now c.append-2.new.bytes (Ok tt) own (are_units c.args.v.now c.type_inv.v) refl
    (c.in_ok-is_utf8.ensures.ok (units own.points) read).form c.append-2.ensures.capacity

pub returns-else-not-is_utf8-clause-scalar : goal.returns-else-not-is_utf8-clause-scalar
returns-else-not-is_utf8-clause-scalar g c longer points read =
    let own = c.requires.well_formed in
    let start = begun g (goal.at.returns-else-not-is_utf8-clause-scalar g c).After-append-2 in
    scalar_units c.args.utf8_prefix.now.len own (c.requires.scalar_prefix own) (omega (arith, longer))
    (c.in_ok-is_utf8.ensures.ok (units own.points) start) c.if-not-is_utf8.false read
