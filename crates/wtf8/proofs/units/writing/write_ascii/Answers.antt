use Rattle.wtf8.proofs.Common.{[], ◌-◌, ap, sym, arith, length, take-take}
use Rattle.wtf8.proofs.lemmas.lanes.Copies.{ends_appended}
use Rattle.wtf8.proofs.lemmas.codec.Scalars.{view_units-ascii}
use Rattle.wtf8.proofs.units.writing.write_ascii.Goals as goal

pub store_units-requires : goal.store_units-requires
store_units-requires g c = grind (arith, view_units-ascii)

pub store_units-requires-2 : goal.store_units-requires-2
store_units-requires-2 g c = grind (arith, view_units-ascii)

pub returns-clause-units : goal.returns-clause-units
returns-clause-units g c =
    let bytes = c.args.view.bytes.now in
    let last = length bytes - g.row.N in
    let whole = ends_appended [] bytes g.row.N last (omega (arith)) c.requires.all.0 c.requires.all.1 in
    let front = c.store_units.ensures.front last (omega (arith, c.requires.all.0, c.requires.all.1)) in
    let both = c.store_units-2.ensures.front g.row.N (omega (arith)) in
    grind (arith, whole, front, both, c.widen.ensures, c.widen-2.ensures, take-take, view_units-ascii c.args.view c.requires.ascii)

pub returns-clause-count : goal.returns-clause-count
returns-clause-count g c = ap length (sym (view_units-ascii c.args.view c.requires.ascii))
