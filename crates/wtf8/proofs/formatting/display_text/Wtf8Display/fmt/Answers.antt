use Rattle.wtf8.proofs.Common.{arith, false_from_ne_true}
use Rattle.wtf8.proofs.lemmas.strings.ExtendedForms.{scalar-characters}
use Rattle.wtf8.proofs.lemmas.strings.Surrogates.{scalars_true, lossy_points-scalar}
use Rattle.wtf8.proofs.formatting.display_text.Wtf8Display.fmt.Goals as goal

pub returns-in-Some-clause-writes : goal.returns-in-Some-clause-writes
returns-in-Some-clause-writes g c =
    grind (arith, lossy_points-scalar, c.in-Some.ensures.some.0, c.in-Some.ensures.bytes, c.pad.ensures.writes)

pub returns-in-Some-clause-styled : goal.returns-in-Some-clause-styled
returns-in-Some-clause-styled g c =
    grind (arith, scalars_true, c.in-Some.ensures.some.0, c.in-Some.ensures.bytes, c.pad.ensures.text)

pub returns-in-None-clause-styled : goal.returns-in-None-clause-styled
returns-in-None-clause-styled g c = grind (arith, false_from_ne_true, scalar-characters, c.in-None.ensures.some.1, c.write_lossy.ensures)
