use Rattle.std.proofs.Common.{◌≡◌, arith}
use Rattle.wtf8.specs.CodePoint.{number}
use Rattle.wtf8_uses.specs.JsonString.{BeginsWithCharacter}
use Rattle.wtf8_uses.proofs.JsonReaderLemmas.{no_escape}
use Rattle.wtf8_uses.proofs.json_reader.first_character.Goals as goal

pub returns-in_default-escape_end-clause-none : goal.returns-in_default-escape_end-clause-none
returns-in_default-escape_end-clause-none c =
    let is_backslash : number c.in-Some.point ≡ 0x5C = omega arith in
    no_escape _ _ _ c.in-Some.ensures.some is_backslash c.in_default-escape_end.ensures.none

pub returns-then-number-eq92-clause-some : goal.returns-then-number-eq92-clause-some
returns-then-number-eq92-clause-some c =
    let is_backslash : number c.in-Some.point ≡ 0x5C = omega arith in
    BeginsWithCharacter.escape _ _ c.in-Some.ensures.some is_backslash c.in-Some-escape_end.ensures.some
