use Rattle.wtf8.proofs.Common.{◌∙◌, arith, sym, ap, Some, slice_get, slice_get-get_or, view_form}
use Rattle.wtf8.proofs.lemmas.units.UnitMarks.{ascii_same}
use Rattle.wtf8.proofs.strings.view.Wtf8.ascii_unit_at.Goals as goal

pub returns : goal.returns
returns c = ap (λ u. slice_get u c.args.index) (sym (ascii_same (view_form c.args.self.now) c.requires.ascii).1) ∙ (slice_get-get_or
    c.args.self.now.bytes.now c.args.index 0 (omega (arith, c.requires.ascii, c.requires.within)) ∙ ap Some (sym c.from.ensures))
