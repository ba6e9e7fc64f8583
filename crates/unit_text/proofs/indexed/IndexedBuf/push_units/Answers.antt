use Rattle.unit_text.proofs.indexed.IndexedBuf.push_units.Goals as goal

pub count_more-requires-clause-marks : goal.count_more-requires-clause-marks
count_more-requires-clause-marks g c =
    (c.self.inside.text, c.args.units.now, (c.in_ok-push_ill_formed_utf16.ensures.ok, c.self.invariant.1))
