use Rattle.std.proofs.Common.{sym, ◌∙◌}
use Rattle.std.proofs.lemmas.Iterator.Adapters.{option_map_id}
use Rattle.std.proofs.lemmas.Iterator.Consumers.{YieldsList-from_first, nth_from_yields_List}
use Rattle.wtf8.specs.Units.{unread_units}
use Rattle.wtf8_uses.proofs.units.nth_unit.Goals as goal

pub returns : goal.returns
returns c =
    sym (option_map_id _)
    ∙ nth_from_yields_List _ _ _ c.nth.ensures.ran (YieldsList-from_first (λ x. x) unread_units _ c.to_ill_formed_utf16.ensures.units)
