use Rattle.wtf8.proofs.Common.{ap, refl, units}
use Rattle.wtf8.proofs.lemmas.codec.Readings.{same_points}
use Rattle.wtf8.proofs.buffers.buf.from_well_formed.Goals as goal

pub invariant_of-result : goal.invariant_of-result
invariant_of-result g c = (c.requires.well_formed, (c.requires.scalar c.requires.well_formed, tt))

pub returns-clause-units : goal.returns-clause-units
returns-clause-units g c h = ap units (same_points c.result-1.given.0 h refl)
