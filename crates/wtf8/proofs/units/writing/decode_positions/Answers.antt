use Rattle.wtf8.proofs.Common.{◌≡◌, ℕ, ◌-◌, ◌≤◌, ◌++◌, ◌∙◌, ap, sym, arith, List, [], length, drop, replicate, units, view_units, mask_l}
use Rattle.wtf8.proofs.Common.{append-nil, length-append, length-drop, length-replicate, Writes, IsWellFormed}
use lib.Count.{count_leading_zeros}
use Rattle.wtf8.specs.private.UnitEnds.{picked, joined_words, set_lanes, by_position, low_of_any, high_of_any}
use Rattle.wtf8.proofs.lemmas.codec.Readings.{IsWellFormed-equal_bytes}
use Rattle.wtf8.proofs.lemmas.units.PackedWords.{leading_zeros-mask_l, whole_len, whole_len-bound}
use Rattle.wtf8.proofs.lemmas.units.UnitLanes.{length-set_lanes, joined_words-by_position}
use Rattle.wtf8.proofs.lemmas.units.UnitEnds.{HoldsUnits, holds_units, Writes-equal_left, Writes-front}
use Rattle.wtf8.proofs.units.writing.decode_positions.Goals as goal

-- the number of the block's whole bytes, by the mask of its ends
record KnowsWidth (block : List ℕ) (n : ℕ) : Type 0 where
  pub set : length (set_lanes 0 0 block) ≡ 32
  pub same : n ≡ whole_len (set_lanes 0 0 block)
  pub within : n ≤ 32

knows_width : (block : List ℕ) (ends : ℕ) → length block ≡ 32 → ends ≡ mask_l (set_lanes 0 0 block)
    → KnowsWidth block (64 - count_leading_zeros 64 ends)
knows_width block ends long e = grind (arith, length-set_lanes, leading_zeros-mask_l, whole_len-bound)

-- all units of the block were written, and those of the zeros after its bytes
all_written : {old new : List ℕ} {at end : ℕ} (w bytes low high : List ℕ) (padding : ℕ) (h : IsWellFormed w) (own : HoldsUnits w bytes padding h)
    → low ≡ by_position (λ z y x b. low_of_any y x b) 0 0 0 bytes → high ≡ by_position high_of_any 0 0 0 bytes
    → Writes old at (picked (joined_words low high) (set_lanes 0 0 bytes) ++ []) new end []
    → Writes old at (own.taken ++ replicate padding 0) new end []
all_written w bytes low high padding h own e g written = grind (arith, joined_words-by_position, append-nil, Writes-equal_left)

pub overflow_sub-at : goal.overflow_sub-at
overflow_sub-at c =
    let view = c.args.left.view in
    let block = c.unit_ends-block in
    let known = knows_width c.args.bytes _ c.fits-bytes.0 block.ensures.ends in
    let own = holds_units view.bytes.now c.args.bytes c.args.padding c.requires.block view.well_formed in
    let all = all_written view.bytes.now c.args.bytes block.result.low block.result.high c.args.padding view.well_formed own block.ensures.low
    block.ensures.high (c.store_block.ensures.written (set_lanes 0 0 c.args.bytes) [] known.set block.ensures.ends) in
    let zeros = length-replicate {A = ℕ} c.args.padding 0 in
    omega (arith, all.same_total, length-append own.taken (replicate c.args.padding 0), zeros)

pub overflow_sub-width-2 : goal.overflow_sub-width-2
overflow_sub-width-2 c =
    let known = knows_width c.args.bytes _ c.fits-bytes.0 c.unit_ends-block.ensures.ends in
    let own = holds_units c.args.left.view.bytes.now c.args.bytes c.args.padding c.requires.block c.args.left.view.well_formed in
    omega (arith, known.same, own.width)

pub skip_bytes-requires-clause-within : goal.skip_bytes-requires-clause-within
skip_bytes-requires-clause-within c =
    let known = knows_width c.args.bytes _ c.fits-bytes.0 c.unit_ends-block.ensures.ends in
    let own = holds_units c.args.left.view.bytes.now c.args.bytes c.args.padding c.requires.block c.args.left.view.well_formed in
    omega (arith, known.same, own.within)

pub skip_bytes-requires-clause-well_formed : goal.skip_bytes-requires-clause-well_formed
skip_bytes-requires-clause-well_formed c =
    let view = c.args.left.view in
    let known = knows_width c.args.bytes _ c.fits-bytes.0 c.unit_ends-block.ensures.ends in
    let own = holds_units view.bytes.now c.args.bytes c.args.padding c.requires.block view.well_formed in
    IsWellFormed-equal_bytes own.rest (ap (λ n. drop (n - c.args.padding) view.bytes.now) known.same)

pub returns : goal.returns
returns c =
    let view = c.args.left.view in
    let block = c.unit_ends-block in
    let padding = c.args.padding in
    let known = knows_width c.args.bytes _ c.fits-bytes.0 block.ensures.ends in
    let own = holds_units view.bytes.now c.args.bytes padding c.requires.block view.well_formed in
    let after : view_units c.skip_bytes.result ≡ units own.rest.points =
    ap units (c.skip_bytes.ensures.points (IsWellFormed-equal_bytes own.rest (ap (λ n. drop (n - padding) view.bytes.now) known.same))) in
    let all = all_written view.bytes.now c.args.bytes block.result.low block.result.high padding view.well_formed own block.ensures.low
    block.ensures.high (c.store_block.ensures.written (set_lanes 0 0 c.args.bytes) [] known.set block.ensures.ends) in
    let n = 64 - count_leading_zeros 64 block.result.ends - padding in
    let rest = ap length c.skip_bytes.ensures.bytes ∙ length-drop n view.bytes.now in
    record {
      written = Writes-equal_left (ap (λ u. own.taken ++ u) after ∙ sym own.whole)
          (Writes-front c.args.left.at c.store_block.result padding own.taken (replicate padding 0) (view_units c.skip_bytes.result)
          (length-replicate {A = ℕ} padding 0) (omega (arith, c.requires.room)) all c.store_block.ensures.later);
      shorter = λ some. omega (arith, known.same, own.some some, own.within, some, rest);
      within = omega (arith, known.within, rest);
      all = λ padded. after ∙ own.all padded;
    }
