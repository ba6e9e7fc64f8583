use Rattle.wtf8.proofs.Common.{w8}
use Rattle.wtf8.proofs.lemmas.lanes.AsciiFronts.{ascii_before}
use Rattle.wtf8.proofs.lanes.ascii.first_not_ascii.Goals as goal

pub returns : goal.returns
returns g c =
    let front = ascii_before w8 g.row.N c.args.bytes c.requires c.fits-bytes.0 c.first_set_lane.result c.first_set_lane.ensures in
    record { none = front.0; some = front.1 }
