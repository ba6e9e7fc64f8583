use Rattle.wtf8.proofs.Common.{◌∙◌, ap, arith, length, length-drop, take_all, take_at}
use Rattle.std.proofs.lemmas.List.{nil_from_length}
use Rattle.wtf8.proofs.lemmas.lanes.AsciiFronts.{Each1-take}
use Rattle.wtf8.proofs.lemmas.codec.Readings.{lists_have_lengths}
use Rattle.wtf8.proofs.lemmas.units.Blocks.{begins_with_ascii}
use Rattle.wtf8.proofs.lemmas.units.UnitEnds.{IsBlock-padded}
use Rattle.wtf8.proofs.units.writing.decode_last.Goals as goal

pub write_front-requires : goal.write_front-requires
write_front-requires c = grind (arith, take_at, take_all, Each1-take, begins_with_ascii)

pub returns-then-is_ascii_block-clause-all : goal.returns-then-is_ascii_block-clause-all
returns-then-is_ascii_block-clause-all c =
    let w = c.args.left.view.bytes.now in
    let rest = c.write_front.result.view.well_formed in
    let none = ap length (rest.encoded ∙ c.write_front.ensures.bytes) ∙ length-drop c.len-len.result w in
    nil_from_length _ (omega (arith, none, c.len-len.ensures.bytes, (lists_have_lengths rest.points).units_least))

pub decode_positions-requires-clause-block : goal.decode_positions-requires-clause-block
decode_positions-requires-clause-block c = IsBlock-padded c.args.left.view.bytes.now c.padded-block.result c.len-len.result
    c.len-len.ensures.bytes (omega (arith, c.requires.few)) c.padded-block.ensures
