use Rattle.wtf8.proofs.Common.{ℕ, sym, pick_l_whole, ◌+◌, ◌++◌, ◌∙◌, ap, arith, refl, take, get_or, put_chunk_is, w8, SwzOk-from_below, swz_l}
use Rattle.std.proofs.lemmas.Simd.{length-swz_l}
use Rattle.wtf8.specs.private.PackedUnits.{byte_count, units_table_index}
use Rattle.wtf8.proofs.lemmas.from_utf16.PackedUnits.{take-written_block}
use Rattle.wtf8.proofs.lemmas.from_utf16.Kernel.{swz_l-packed_units, IsByteCount-byte_count}
use Rattle.wtf8.proofs.from_utf16.kernel.pack_four.Goals as goal

pub swizzle-packed : goal.swizzle-packed
swizzle-packed c = SwzOk-from_below w8 16 1 16 0 c.packing_shuffle.result refl (omega arith) c.packing_shuffle.ensures.within

pub returns-clause-bytes : goal.returns-clause-bytes
returns-clause-bytes c before u long lanes number =
    let count = λ (k : ℕ). byte_count (get_or u k 0) in
    let is = λ (k : ℕ). IsByteCount-byte_count (get_or u k 0) in
    let index = number ∙ ap units_table_index (sym (pick_l_whole 0 u 4 long)) in
    let packed = c.packed_len.ensures.len (count 0) (count 1) (count 2) (count 3) (is 0) (is 1) (is 2) (is 3) index in
    let row = c.packing_shuffle.ensures.packs (count 0) (count 1) (count 2) (count 3) (is 0) (is 1) (is 2) (is 3) index in
    let scratch = c.args.scratch.now in
    let len = c.args.len in
    let bytes = swz_l w8 16 c.args.lanes 0 c.packing_shuffle.result in
    ap (take (len + c.packed_len.result))
    (put_chunk_is len scratch bytes (omega (arith, c.requires, length-swz_l w8 16 c.args.lanes 0 c.packing_shuffle.result)))
    ∙ take-written_block scratch bytes _ len c.packed_len.result (omega (arith, c.requires.room))
    (omega (arith, c.packed_len.ensures.most, length-swz_l w8 16 c.args.lanes 0 c.packing_shuffle.result))
    ∙ ap (λ n. take len scratch ++ take n bytes) packed ∙ ap (λ w. take len scratch ++ w)
    (swz_l-packed_units c.args.lanes c.packing_shuffle.result before u (omega arith) c.packing_shuffle.ensures.within long lanes row)
