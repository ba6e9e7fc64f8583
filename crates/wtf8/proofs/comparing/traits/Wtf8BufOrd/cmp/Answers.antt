use Rattle.wtf8.proofs.Common.{◌∙◌, rules}
use Rattle.wtf8.proofs.lemmas.comparing.Order.{cmp_points, points_order}
use Rattle.wtf8.proofs.comparing.traits.Wtf8BufOrd.cmp.Goals as goal

pub returns-clause-bytes : goal.returns-clause-bytes
returns-clause-bytes g c = search rules

pub returns-clause-points : goal.returns-clause-points
returns-clause-points g c = returns-clause-bytes g c ∙ cmp_points _ _ c.args.self.now.form.encoded c.args.other.now.form.encoded

pub returns-clause-order : goal.returns-clause-order
returns-clause-order g c = points_order _ _ _ c.args.self.now.form.encoded c.args.other.now.form.encoded (returns-clause-bytes g c)
