use Rattle.wtf8.proofs.Common.{arith, length}
use Rattle.std.proofs.lemmas.Bool.Decides.{Decides-eqb}
use Rattle.wtf8.proofs.lemmas.strings.Positions.{cut_at, boundary_from_byte, byte_from_boundary}
use Rattle.wtf8.proofs.strings.view.Wtf8.is_code_point_boundary.Goals as goal

pub returns-then-index-self : goal.returns-then-index-self
returns-then-index-self c = (
  λ t. boundary_from_byte c.args.self.now.well_formed c.args.index (omega arith) (λ _. record { start = c.begins_code_point.ensures.0 t }),
  λ b. c.begins_code_point.ensures.1 (byte_from_boundary c.args.self.now.well_formed c.args.index b c.if-index-self.true).start,
)

pub returns-else-index-self : goal.returns-else-index-self
returns-else-index-self c =
    let n = length c.args.self.now.bytes.now in (
      λ t. let e = (Decides-eqb c.args.index n).0 t in
          boundary_from_byte c.args.self.now.well_formed c.args.index (omega arith) (λ m. absurd (omega arith)),
      λ b. (Decides-eqb c.args.index n).1
          (omega (arith, c.if-index-self.false, (cut_at c.args.self.now.well_formed c.args.index b).within)),
    )
