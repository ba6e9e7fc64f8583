use Rattle.wtf8.proofs.Common.{[], arith, refl, inl, inr, true}
use Rattle.wtf8.proofs.lemmas.from_utf16.Transcode.{read_none}
use Rattle.wtf8.proofs.from_utf16.front.write_front.Goals.{then-out-lt-MIN_SPARE, else-out-lt-MIN_SPARE}
use Rattle.wtf8.proofs.from_utf16.front.write_front.Goals as goal

pub loop-read-init : goal.loop-read-init
loop-read-init c = record {
  within = omega arith;
  bytes = omega arith;
  least = elim c.if-out-lt-MIN_SPARE.branch [
    | then-out-lt-MIN_SPARE w ↦ (omega (arith, w.least-is), omega (arith, w.least-is), omega (arith, w.least-is, c.requires))
    | else-out-lt-MIN_SPARE w ↦ (omega (arith, w.least-is), omega (arith, w.least-is), omega (arith, w.least-is, w.if-out-lt-MIN_SPARE.false))
  ];
  len = refl;
  some = inl (refl, refl);
  read = read_none true refl;
}

pub loop-read-preserved : goal.loop-read-preserved
loop-read-preserved c =
    let before = c.loop-read.invariant in
    let own = c.write_blocks in record {
      within = own.ensures.units;
      bytes = own.ensures.within;
      least = (before.least.0, before.least.1, omega (arith, before.least.2, own.auto.out));
      len = omega (arith, before.len, own.auto.out);
      some = inr (omega (arith, own.ensures.order));
      read = own.ensures.read [] [] before.read;
    }

pub loop-read-2-preserved : goal.loop-read-2-preserved
loop-read-2-preserved c =
    let before = c.loop-read-2.invariant in
    let own = c.write_point in record {
      within = own.ensures.order.1;
      bytes = omega (arith, own.ensures.most, own.auto.out, before.least.0, c.if-least-out.true);
      least = (before.least.0, before.least.1, omega (arith, before.least.2, own.auto.out));
      len = omega (arith, before.len, own.auto.out);
      some = inr (omega (arith, own.ensures.order.0));
      read = own.ensures.read [] [] before.read;
    }
