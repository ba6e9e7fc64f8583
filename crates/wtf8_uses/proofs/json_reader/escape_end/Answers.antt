use Rattle.std.proofs.Common.{◌≡◌, arith}
use Rattle.wtf8.specs.CodePoint.{number}
use Rattle.wtf8_uses.specs.JsonString.{EndsEscape}
use Rattle.wtf8_uses.proofs.JsonReaderLemmas.{no_unit_escape}
use Rattle.wtf8_uses.proofs.json_reader.escape_end.Goals as goal

pub returns-in_default-first_unit-clause-none : goal.returns-in_default-first_unit-clause-none
returns-in_default-first_unit-clause-none c =
    let is_u : number c.in-Some.letter ≡ 0x75 = omega arith in
    no_unit_escape _ _ _ c.in-Some.ensures.some is_u c.in_default-first_unit.ensures.none

pub returns-then-letter-eq117-clause-some : goal.returns-then-letter-eq117-clause-some
returns-then-letter-eq117-clause-some c =
    let is_u : number c.in-Some.letter ≡ 0x75 = omega arith in
    EndsEscape.unit _ _ c.in-Some.ensures.some is_u c.in-Some-first_unit.ensures.some

pub returns-clause-some : goal.returns-clause-some
returns-clause-some c = EndsEscape.letter _ c.in-Some.ensures.some
    (cc (c.to_u32-letter.ensures.value, c.escaped_char.ensures, c.in-Some-escaped_char.is, c.from_char.ensures))
