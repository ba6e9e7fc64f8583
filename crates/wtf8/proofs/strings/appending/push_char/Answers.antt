use Rattle.wtf8.proofs.Common.{arith}
use Rattle.wtf8.proofs.lemmas.strings.ExtendedForms.{scalar_back_unpaired, scalar_facts}
use Rattle.wtf8.proofs.strings.appending.push_char.Goals as goal

pub push_unpaired-requires-clause-no_pair : goal.push_unpaired-requires-clause-no_pair
push_unpaired-requires-clause-no_pair g c h =
    grind (arith, scalar_back_unpaired, scalar_facts, c.from_u32_unchecked.ensures, c.from.ensures)
