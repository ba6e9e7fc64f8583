use Rattle.wtf8.proofs.lemmas.from_utf16.Kernel.{scalar_lanes}
use Rattle.wtf8.proofs.from_utf16.kernel.scalar_unit_bytes.Goals as goal

pub returns : goal.returns
returns c =
    let own = scalar_lanes _ _ _ _ c.requires c.scalar_heads.ensures c.scalar_lasts.ensures c.scalar_flags.ensures in
    record { bytes = own.0; scalar = own.1 }
