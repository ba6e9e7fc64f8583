use Rattle.wtf8.specs.View.{view_units}
use Rattle.wtf8_uses.proofs.joining.part_of_len.Goals as goal

pub slice_to-requires : goal.slice_to-requires
slice_to-requires c =
    c.law_positions.ensures.whole_in_back (view_units c.args.text)
    (view_units c.slice_from.result) c.args.begin c.args.len c.slice_from.ensures.units c.requires.end
