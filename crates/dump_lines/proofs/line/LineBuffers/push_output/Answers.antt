use Rattle.std.proofs.Common.{◌≡◌, ◌++◌, [], true, refl, sym, rules, arith}
use Rattle.std.proofs.lemmas.Bool.{MatchBool-at_true}
use Rattle.std.proofs.lemmas.Bool.Decides.{nat_tests}
use Rattle.std.proofs.lemmas.List.{append-nil, nil_from_length}
use Rattle.std.proofs.lemmas.Result.{on_ok_weaker}
use Rattle.wtf8.specs.Building.{Run}
use Rattle.wtf8.specs.Hex.{hex}
use Rattle.dump_lines.specs.Dump.{IsOutput, dumped, note}
use Rattle.dump_lines.proofs.line.LineBuffers.push_output.Goals as goal

pub returns : goal.returns
returns g c =
    let calls = c.parse_calls.new.calls.items in
    let all : c.in_ok-parse_calls.field-0 ≡ true = search rules in
    let read = MatchBool-at_true _ _ all c.in_ok-parse_calls.ensures in
    let string = c.apply_all.new.self in
    let n = c.in-Ok.refused in
    let run : Run [] calls string.units n = rw (c.clear.ensures.units, c.as_slice.ensures.value) at c.in-Ok.ensures.run in
    record {
      output = on_ok_weaker c.push_dump_with_note.result (λ e. (
        hex string.bytes ++ note string.bytes n,
        dumped calls string.units n string.bytes read run string.form refl,
        e,
      )) c.push_dump_with_note.ensures;
    }

empty_output : IsOutput [] []
empty_output =
    dumped [] [] 0 [] tt (refl, refl) (record { points = []; reads = record { clean = tt; same_units = refl }; encoded = refl }) refl

pub returns-then-is_empty : goal.returns-then-is_empty
returns-then-is_empty g c =
    let none = nil_from_length c.args.line.now (grind (arith, nat_tests)) in
    record { output = ([], rw none empty_output, sym (append-nil c.args.out.now.items)) }
