use Rattle.wtf8.proofs.lemmas.lanes.Utf8Lanes.{follows_before_bit}
use Rattle.wtf8.proofs.lanes.utf8.follows_in_lanes.Goals as goal

pub returns : goal.returns
returns c =
    let found = follows_before_bit c.args.third c.args.second c.args.first c.args.bytes c.fits-third.0 c.fits-second.0 c.fits-first.0 c.fits-bytes.0
    c.first_set_lane.result c.first_set_lane.ensures in
    rw c.unwrap_or.ensures record { within = found.0; follow = found.1 }
