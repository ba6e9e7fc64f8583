use Rattle.wtf8.proofs.Common.{◌-◌, arith, length, subst}
use Rattle.wtf8.proofs.lemmas.strings.Utf8Texts.{follows_in_ascii, follows_on}
use Rattle.wtf8.specs.private.Utf8Bytes.{FollowsUpTo}
use Rattle.wtf8.proofs.lanes.utf8.follows_throughout.Goals as goal

pub loop-at-init : goal.loop-at-init
loop-at-init c = subst (FollowsUpTo c.args.bytes.now) (omega (arith, c.if-front-lt-BLOCK.false)) c.begins_long_text-front.ensures

pub loop-at-preserved-then-is_ascii_block : goal.loop-at-preserved-then-is_ascii_block
loop-at-preserved-then-is_ascii_block c =
    let at = c.loop-at.at in
    let room = c.loop-at-test.true in
    let ascii = follows_in_ascii c.args.bytes.now at (omega (arith, c.requires, room)) (c.is_ascii_block.ensures c.if-is_ascii_block.true) in
    subst (FollowsUpTo c.args.bytes.now) (omega arith)
    (follows_on c.args.bytes.now at at 29 (omega arith) (omega (arith, c.requires, room)) c.loop-at.invariant ascii)

pub returns-then-more-lt-BLOCK : goal.returns-then-more-lt-BLOCK
returns-then-more-lt-BLOCK c =
    let block = c.follows_in_block-more.ensures in
    follows_on c.args.bytes.now c.loop-at.at c.loop-at.at c.follows_in_block-more.result (omega arith)
    (omega (arith, c.requires, c.loop-at-test.true, block.within)) c.loop-at.invariant block.follow

pub loop-at-preserved : goal.loop-at-preserved
loop-at-preserved c =
    let block = c.follows_in_block-more.ensures in
    subst (FollowsUpTo c.args.bytes.now) (omega (arith, block.within, c.if-more-lt-BLOCK.false))
    (follows_on c.args.bytes.now c.loop-at.at c.loop-at.at c.follows_in_block-more.result (omega arith)
    (omega (arith, c.requires, c.loop-at-test.true, block.within)) c.loop-at.invariant block.follow)

pub returns : goal.returns
returns c =
    let block = c.follows_in_block.ensures in
    follows_on c.args.bytes.now c.loop-at.at (length c.args.bytes.now - 35) c.follows_in_block.result (omega (arith, c.loop-at-test.false))
    (omega (arith, c.requires, block.within)) c.loop-at.invariant block.follow
