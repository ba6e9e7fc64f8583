use Rattle.wtf8.proofs.Common.{ap, arith, length, nat_tests, ◌≤◌}
use Rattle.wtf8.proofs.lemmas.strings.ExtendedForms.{ExtendsForm-append, all_scalar, scalar_front_unpaired}
use Rattle.wtf8.proofs.strings.appending.push_wtf8.Goals as goal

pub returns-then-is_utf8-clause-extends : goal.returns-then-is_utf8-clause-extends
returns-then-is_utf8-clause-extends g c =
    let own = c.requires.well_formed in
    let within : c.len.result ≤ c.args.utf8_prefix.now.len = grind (arith, nat_tests, c.if-is_utf8.true) in
    let scalar = all_scalar own.points c.args.utf8_prefix.now.len (c.requires.scalar_prefix own)
    (omega (arith, within, c.len.ensures, ap length own.encoded)) in
    record {
      whole = _;
      extends = ExtendsForm-append own c.args.other.well_formed (scalar_front_unpaired scalar);
      becomes = c.append_bytes.ensures;
    }
