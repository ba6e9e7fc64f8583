-- Re-exports the names of std and of specs/ that many proofs cite. Declares nothing.
pub use Rattle.std.proofs.Common.{length-append, append_assoc, vec_len, vec_capacity, length-take, length-drop, MatchResult, length-take-le}
pub use Rattle.std.proofs.Common.{◌∙◌, length, get_or, Result, IsTrue, replicate, Option, IfSome, take-add, bit_and, drop-cons, slice_index}
pub use Rattle.std.proofs.Common.{◌++◌, arith, drop, List, refl, true, lit≤, lit<, false, subst, OnErr, rules, nat_eq, bit_or, is_ok, codes}
pub use Rattle.std.proofs.Common.{inl, inr, sym, ◌≡◌, ◌+◌, ◌-◌, ◌/◌, ◌%◌, ◌<◌, Bool, cond, Some, take, OnOk, zero, None, ◌&&◌, ◌||◌, Fits}
pub use Rattle.std.proofs.Common.{ap, ℕ, [], ◌∷◌, ◌≤◌, Ok, Err, ◌≢◌, ◌↔◌, ◌*◌, suc, ◌⊎◌, leb, not, w8, map, ltb, ◌^◌, eqb, min, w16}
pub use Rattle.std.proofs.Math.Seq.{get_or-append_seam, take-append-add, drop-append-add}
pub use Rattle.std.proofs.Output.{has_written_styled_nil, writes_in_calls_append}
pub use Rattle.std.proofs.lemmas.Bool.{cases_order, cases_Bool, cases_lt, le-leb, lt-leb, false≢true, lt-ltb, le-ltb, leb-true, and_parts}
pub use Rattle.std.proofs.lemmas.Bool.{both_ways, and_from, eq-eqb, eqb-true, not-false, false_from_ne_true, not-true, true≢false}
pub use Rattle.std.proofs.lemmas.Bool.Decides.{nat_tests}
pub use Rattle.std.proofs.lemmas.Grind.{common_steps}
pub use Rattle.std.proofs.lemmas.Iterator.Consumers.{YieldsList-from_first}
pub use Rattle.std.proofs.lemmas.List.{take-append-drop, get_or-append_right, get_or-append-add, append_cancel_left, get_or_append_left}
pub use Rattle.std.proofs.lemmas.List.{map-append, append-nil, same_from_push, drop-append-le, get_or-drop, length-map, length-replicate}
pub use Rattle.std.proofs.lemmas.List.{take_at, drop_at, drop_all, take_all, drop-drop, drop-take, map-id, take-take, take_rest}
pub use Rattle.std.proofs.lemmas.List.Concat.{flat_map-append}
pub use Rattle.std.proofs.lemmas.List.Elements.{All-drop, All-same, All-cons, All-head, All-nil, All-tail, All-from_get_or, All-get_or}
pub use Rattle.std.proofs.lemmas.List.Elements.{All-pop, All-take}
pub use Rattle.std.proofs.lemmas.List.Sums.{sum_by-append, sum_by-cons, sum_by_more, prefix_len_passes, prefix_len_stops}
pub use Rattle.std.proofs.lemmas.Option.{none-some, slice_get-get_or}
pub use Rattle.std.proofs.lemmas.Result.{on_ok_weaker, on_err_weaker}
pub use Rattle.std.proofs.lemmas.Simd.{Each1-weaker, length-chunk, pick_l_whole, length-zip2, mask_l-mod, tops_compared, get_or-zip2}
pub use Rattle.std.proofs.lemmas.Simd.{get_or-chunk, fold-sum, put_chunk_is, swz_l, zip2_splat, Each1-from_get_or, Each2-of}
pub use Rattle.std.proofs.lemmas.Simd.{SwzOk-from_below, sum-zip2, sum_bound, sum_fits}
pub use Rattle.std.proofs.lemmas.Str.{scalars-chars, IsAscii-append, IsUtf8-from_ascii, IsUtf8-string_bytes, chars-encodes, encode_same}
pub use Rattle.std.proofs.lemmas.Str.{encodes-chars}
pub use Rattle.std.specs.Cmp.Lexicographic.{slice_cmp, pointwise, bytes_decides}
pub use Rattle.std.specs.Fmt.{IsFlush}
pub use Rattle.std.specs.Iterator.{Drains}
pub use Rattle.std.specs.Iterator.Adapters.{peekable_steps, peekable_peeked, copied_steps, skip_count, skip_source, take_count, take_source}
pub use Rattle.std.specs.List.{All, slice_get, flat_map, prefix_len, range_with_len}
pub use Rattle.std.specs.Option.{option_cmp, IsNone, option_to_list, unwrap_or}
pub use Rattle.std.specs.Ordering.{nat_cmp, MatchOrdering, ordering_then, ordering_reverse}
pub use Rattle.std.specs.Prelude.{IsOk, IsSome, MatchOption}
pub use Rattle.std.specs.Slice.Iter.{iter_rest, iter_steps}
pub use Rattle.std.specs.Str.{IsUtf8, chars, IsAscii}
pub use Rattle.std.specs.declared.cmp.Ordering.{Ordering}
pub use Rattle.std.specs.declared.cmp.Ordering.TheVariants.{Greater, Less, Equal}
pub use Rattle.wtf8.specs.Appending.{KeepsContents, AppendsUnits, AddsLength, AppendsPoints, FitWithin, HasRoomFor}
pub use Rattle.wtf8.specs.Building.{Step, Run, CallsAppend, IsNoTruncation, EachCallFits, CallFits, LeavesReserved, RunsAddUp, RunsOnce}
pub use Rattle.wtf8.specs.CodePoint.{number, numbers}
pub use Rattle.wtf8.specs.Concatenation.{MeetsAsPair, is_pair, glue}
pub use Rattle.wtf8.specs.Debug.{escape_surrogate}
pub use Rattle.wtf8.specs.Form.{bytes, encoding, IsClean, Reads, IsWellFormed, IsForm}
pub use Rattle.wtf8.specs.Hex.{digit, hex_of, hex}
pub use Rattle.wtf8.specs.OneForm.{bytes-injective, bytes_are_encodes, encoding_is_encode, form_of, well_formed_of}
pub use Rattle.wtf8.specs.Order.{Before}
pub use Rattle.wtf8.specs.Position.{IsBoundary, IsFront, IsBack, IsMiddle, Splits}
pub use Rattle.wtf8.specs.Surrogates.{AreScalar, replace_surrogate, lossy_points}
pub use Rattle.wtf8.specs.Unicode.{units_of, units, IsSurrogate, IsLead, IsTrail, pair, IsCodePoint, IsUnit}
pub use Rattle.wtf8.specs.UnitPosition.{DividesPair}
pub use Rattle.wtf8.specs.UnitString.{UnitString}
pub use Rattle.wtf8.specs.Units.{unread_units, Unread}
pub use Rattle.wtf8.specs.View.{view_units, view_form, view_points}
pub use Rattle.wtf8.specs.declared.codec.code_point.CodePoint.{CodePoint}
pub use Rattle.wtf8.specs.declared.buffers.build.Build.{Build}
pub use Rattle.wtf8.specs.declared.buffers.build.Build.TheVariants.{Reserve, Truncate, TruncateUnits}
pub use Rattle.wtf8.specs.declared.units.counts.UnitCursor.{UnitCursor}
pub use Rattle.wtf8.specs.declared.strings.view.Wtf8.{Wtf8}
pub use Rattle.wtf8.specs.private.Decoding.{point_of_item, decode_steps, ReadsAll}
pub use Rattle.wtf8.specs.private.EncodedBytes.{ExtendsForm, ExtendsFormOrKeeps, BeginsWithPoint, FirstPointByLead, FirstPointIs}
pub use Rattle.wtf8.specs.private.EncodedBytes.{BeginsWithUnits, Writes, unit_of_three, unit_of_two}
pub use Rattle.wtf8.specs.private.Prefixes.{IsKnownForm, AreAscii, AreScalarTo, IsReadTo, AreScalarUnits, ReadsOn, FrontsFit, HasRoomFrom, HasRoomAfter}
pub use Rattle.wtf8.specs.private.Search.{IsFirst, IsLeast, NoneIn, IsFirstIn, IsFirstSet, IsSet, IsMismatch, DifferAt, DecidesNone}
pub use Rattle.wtf8.specs.private.Search.{SupplementaryBegins, SurrogateAt, SurrogateInLane}
pub use Rattle.wtf8.specs.private.UnitsInBytes.{IsCursor, IsCursorOfUnit, utf16_len, sum_utf16_len, held_trail, after_held_trail}
pub use Rattle.wtf8.specs.private.UnitsInBytes.{trail_from_bytes, unread_after, StepsUnit, is_continuation, unread_at}
pub use lib.Lanes.{zip2, Each1, chunk, mask_l, top, sel_l, Each2, fold_l, sum_l}
pub use lib.Utf8.{scalars, scalar, low_scalar}
