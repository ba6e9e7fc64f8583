use Rattle.std.proofs.Common.{refl}
use Rattle.wtf8_uses.proofs.Numbering.{next_in_chain-is_head, AreNumbered-equal_lists}
use Rattle.wtf8_uses.proofs.interner.Interner.next_in_chain.Goals as goal

pub returns : goal.returns
returns c = next_in_chain-is_head
    (AreNumbered-equal_lists c.self.inside.numbered refl c.self.view_is) c.args.number c.index.result.now c.requires c.index.ensures
