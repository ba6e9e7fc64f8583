use Rattle.wtf8.proofs.lemmas.lanes.Padding.{indexes-ok, swz_l-without_first}
use Rattle.wtf8.proofs.lanes.padding.without_first.Goals as goal

pub swizzle : goal.swizzle
swizzle c = indexes-ok c.args.count c.requires

pub returns : goal.returns
returns c = swz_l-without_first c.args.bytes c.args.count c.requires c.fits-bytes.0
