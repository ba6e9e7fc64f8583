use Rattle.wtf8.proofs.Common.{view_units, view_form}
use Rattle.wtf8.proofs.lemmas.strings.PositionLaws.{start_is_boundary, end_is_boundary, ascii_alone}
use Rattle.wtf8.proofs.laws.law_boundaries.Goals as goal

pub returns : goal.returns
returns c =
    let t = c.args.view in
    let form = view_form t in record {
      start = start_is_boundary t.bytes.now (view_units t) form;
      end = end_is_boundary t.bytes.now (view_units t) form;
      before = λ k inside low. (ascii_alone t.bytes.now (view_units t) k form inside low).0;
      after = λ k inside low. (ascii_alone t.bytes.now (view_units t) k form inside low).1;
    }
