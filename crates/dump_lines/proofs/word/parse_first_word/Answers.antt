use Rattle.std.proofs.Common.{take, sym, ◌∙◌, arith, rules, length-take-le}
use Rattle.std.proofs.lemmas.List.{take_rest, get_or-take}
use Rattle.dump_lines.proofs.Digits.{point_of-no_space}
use Rattle.dump_lines.proofs.Splitting.{slice_split-at_separator, slice_split-no_separator}
use Rattle.dump_lines.proofs.word.parse_first_word.Goals as goal

pub returns-in-Some : goal.returns-in-Some
returns-in-Some c =
    let bytes = c.args.bytes.now in
    let is_point = sym c.in-Some.ensures in
    let within = length-take-le 4 bytes (omega arith) in (
      take 4 bytes,
      rw take_rest (slice_split-at_separator 32 bytes 4
          (λ k lt is. point_of-no_space (take 4 bytes) _ k is_point (omega arith) (get_or-take 4 bytes k 0 lt ∙ is))
          (omega arith) c.if-bytes-eq32.true),
      is_point,
    )

pub returns-in-Some-parse_point : goal.returns-in-Some-parse_point
returns-in-Some-parse_point c =
    let bytes = c.args.bytes.now in
    let is_point = sym c.in-Some-parse_point.ensures in (
      bytes,
      slice_split-no_separator 32 bytes 4 (λ k lt. point_of-no_space bytes _ k is_point (omega arith)) (omega arith),
      is_point,
    )

pub returns : goal.returns
returns c = (_, c.split_first_part.ensures.parts, search rules)
