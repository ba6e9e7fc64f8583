use Rattle.wtf8.proofs.Common.{arith}
use Rattle.wtf8.proofs.lemmas.strings.Utf8Texts.{follows_after_zeros}
use Rattle.wtf8.proofs.lanes.utf8.begins_text.Goals as goal

pub returns : goal.returns
returns c = follows_after_zeros c.first_block-block.result c.after_byte-first.result c.after_byte-second.result c.after_byte-third.result
    c.after_byte-first.ensures c.after_byte-second.ensures c.after_byte-third.ensures c.args.bytes.now c.min.result c.follows_in_lanes.result
    (omega (arith, c.min.ensures)) (omega (arith, c.min.ensures)) c.follows_in_lanes.ensures.within c.first_block-block.ensures
    c.follows_in_lanes.ensures.follow
