use Rattle.wtf8.proofs.Common.{◌∙◌, ap, arith, get_or, get_or-chunk}
use Rattle.wtf8.proofs.lanes.utf8.first_block.Goals as goal

pub returns : goal.returns
returns c k few l = get_or-chunk 0 32 c.args.bytes.now k 0 few ∙ ap (λ n. get_or c.args.bytes.now n 0) (omega arith)
