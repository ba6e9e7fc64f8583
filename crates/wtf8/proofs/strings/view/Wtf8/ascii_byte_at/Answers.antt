use Rattle.wtf8.proofs.Common.{view_form}
use Rattle.wtf8.proofs.lemmas.strings.PositionLaws.{ascii_alone, ascii_one_unit}
use Rattle.wtf8.proofs.strings.view.Wtf8.ascii_byte_at.Goals as goal

pub returns-in-0-to-127-clause-before : goal.returns-in-0-to-127-clause-before
returns-in-0-to-127-clause-before c low = (ascii_alone _ _ c.args.position (view_form c.args.self.now) c.requires low).0

pub returns-in-0-to-127-clause-after : goal.returns-in-0-to-127-clause-after
returns-in-0-to-127-clause-after c low = (ascii_alone _ _ c.args.position (view_form c.args.self.now) c.requires low).1

pub returns-in-0-to-127-clause-unit : goal.returns-in-0-to-127-clause-unit
returns-in-0-to-127-clause-unit c front back low = ascii_one_unit _ _ front back c.args.position (view_form c.args.self.now) c.requires low
