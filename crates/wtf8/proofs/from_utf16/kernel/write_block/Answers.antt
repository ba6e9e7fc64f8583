use Rattle.wtf8.proofs.Common.{arith, take, rules}
use Rattle.wtf8.proofs.lemmas.from_utf16.Kernel.{take-without_lead}
use Rattle.wtf8.proofs.from_utf16.kernel.write_block.Goals as goal

pub overflow_sub-result-then-units-eq-LEAD_KIND : goal.overflow_sub-result-then-units-eq-LEAD_KIND
overflow_sub-result-then-units-eq-LEAD_KIND c =
    let lead = c.if-units-eq-LEAD_KIND.true in
    let packed = c.pack_block-end in
    (take-without_lead packed.new.scratch (take c.args.len c.args.scratch.now) c.args.units packed.result c.fits-units.0
    (omega (arith, packed.ensures.order, c.requires)) (omega (arith, lead), omega (arith, lead)) packed.ensures.bytes).0

pub returns-then-units-eq-LEAD_KIND-clause-bytes : goal.returns-then-units-eq-LEAD_KIND-clause-bytes
returns-then-units-eq-LEAD_KIND-clause-bytes c = grind (arith, take-without_lead, c.if-units-eq-LEAD_KIND.true, c.requires)

pub returns-then-units-eq-LEAD_KIND-clause-scalar : goal.returns-then-units-eq-LEAD_KIND-clause-scalar
returns-then-units-eq-LEAD_KIND-clause-scalar c = search rules

pub returns-clause-scalar : goal.returns-clause-scalar
returns-clause-scalar c = search rules
