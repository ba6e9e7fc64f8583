use Rattle.wtf8.proofs.lemmas.strings.Utf8Texts.{follows_in_chunks}
use Rattle.wtf8.proofs.lanes.utf8.follows_in_block.Goals as goal

pub returns : goal.returns
returns c =
    let found = c.follows_in_lanes.ensures in
    record { within = found.within; follow = follows_in_chunks c.args.bytes.now c.args.at _ found.within found.follow }
