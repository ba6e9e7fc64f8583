use Rattle.std.proofs.Common.{◌≡◌, take, drop}
use Rattle.std.specs.List.{list_all}
use Rattle.std.specs.Char.{is_digit}
use Rattle.std.specs.Str.Parse.{digits_value, AllDigits}
use Rattle.dump_lines.proofs.word.parse_number.Given as goal

-- the bytes so far are digits with the value `number`, and the word is all digits if and only if the rest is
abbrev pub invariant-loop-byte : goal.invariant-loop-byte
invariant-loop-byte l = record {
  spelled : l.number ≡ digits_value l.base (take l.byte-index l.word);
  digits : AllDigits l.base (take l.byte-index l.word);
  rest : list_all (λ byte. is_digit byte l.base) l.word ≡ list_all (λ byte. is_digit byte l.base) (drop l.byte-index l.word);
}
