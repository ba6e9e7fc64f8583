use Rattle.std.proofs.Common.{◌==◌, eqb, sym, ◌∙◌, arith, w8, inl, inr}
use lib.Lanes.{chunk}
use Rattle.std.proofs.lemmas.Bool.{cases_lt, eqb-false}
use Rattle.std.proofs.lemmas.Simd.{bitmask_splat, length-chunk, none_from_empty_mask}
use Rattle.dump_lines.proofs.split.skip_blocks_without.Goals as goal

pub loop-at-preserved : goal.loop-at-preserved
loop-at-preserved c =
    let at = c.loop-at.at in
    let bytes = c.args.bytes.now in
    let separator = c.args.separator in
    let mask = bitmask_splat w8 eqb (chunk at 16 bytes) 16 separator (length-chunk at 16 bytes (omega arith)) (omega arith) in
    let none = none_from_empty_mask (λ b. b == separator) bytes at 16 0 (omega arith) (sym mask ∙ c.if-found-ne0.false) in
    record {
      within = omega arith;
      none = λ k lt. elim (cases_lt k at) [
        | inl before ↦ c.loop-at.invariant.none k before
        | inr here ↦ eqb-false _ separator (none k here lt)
      ];
    }
