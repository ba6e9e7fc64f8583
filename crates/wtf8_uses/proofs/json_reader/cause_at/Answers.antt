use Rattle.std.proofs.Common.{◌≤◌, arith}
use Rattle.wtf8.specs.CodePoint.{number}
use Rattle.wtf8_uses.proofs.JsonReaderLemmas.{backslash_stops}
use Rattle.wtf8_uses.proofs.json_reader.cause_at.Goals as goal

pub returns-else-to_u32-lt32 : goal.returns-else-to_u32-lt32
returns-else-to_u32-lt32 c =
    let above : 0x20 ≤ number c.in-Some.point = omega arith in
    let joined = c.in-Some.ensures.some in
    (_, _, joined, backslash_stops _ _ _ joined above c.requires.no_character c.requires.no_quote)
