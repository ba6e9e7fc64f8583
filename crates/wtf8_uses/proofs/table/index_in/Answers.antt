use Rattle.wtf8_uses.proofs.table.index_in.Goals as goal

pub returns-in-Err-clause-none : goal.returns-in-Err-clause-none
returns-in-Err-clause-none g c = c.law_binary_search.ensures.absent _ c.requires c.in-Err.ensures.position
