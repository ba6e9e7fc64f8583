use Rattle.wtf8.proofs.Common.{ℕ, ◌++◌, ◌∙◌, ap, sym, arith, length, length-append, take, append_assoc, units, view_units, length-take-le}
use Rattle.wtf8.proofs.units.writing.write_front.Goals as goal

pub skip_bytes-requires-clause-well_formed : goal.skip_bytes-requires-clause-well_formed
skip_bytes-requires-clause-well_formed g c = (c.requires.begins c.args.left.view.well_formed).0

pub returns-clause-written : goal.returns-clause-written
returns-clause-written g c =
    let old = take c.args.left.at c.args.units.now in
    let front = take c.args.count c.args.block in
    let begins = c.requires.begins c.args.left.view.well_formed in
    let after = ap units (c.skip_bytes.ensures.points begins.0) in
    record {
      units = ap (λ u. u ++ view_units c.skip_bytes.result) (c.store_units.ensures.front c.args.count c.requires.within.0) ∙ (append_assoc
          old front (view_units c.skip_bytes.result) ∙ (ap (λ u. old ++ (front ++ u)) after ∙ ap (λ u. old ++ u) (sym begins.1)));
      same_total = omega (arith, ap length begins.1, length-append {A = ℕ}, ap length after, length-take-le {A = ℕ});
      order = omega arith;
      len = c.store_units.ensures.len;
      later = λ n after. c.store_units.ensures.later n (omega (arith, after, c.requires.lanes));
    }
