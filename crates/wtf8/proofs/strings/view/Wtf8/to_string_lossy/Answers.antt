use Rattle.wtf8.proofs.Common.{ap, sym, ◌∙◌, subst, IsUtf8, length, drop, arith}
use Rattle.wtf8.proofs.lemmas.strings.Surrogates.{utf8_lossy_points, lossy_points-scalar, length-lossy_points, lossy_written}
use Rattle.wtf8.proofs.lemmas.codec.Readings.{IsWellFormed-equal_bytes}
use Rattle.wtf8.proofs.strings.view.Wtf8.to_string_lossy.Goals as goal

pub returns-in-Some-clause-text : goal.returns-in-Some-clause-text
returns-in-Some-clause-text g c = grind (arith, lossy_points-scalar, c.in-Some.ensures.bytes, c.in-Some.ensures.some.0)

pub from_utf8_unchecked-requires : goal.from_utf8_unchecked-requires
from_utf8_unchecked-requires g c =
    let h = c.args.self.now.well_formed in
    let same = c.in_ok-bytes.ensures.items in
    let is = c.replace_surrogates.ensures (IsWellFormed-equal_bytes h (c.as_mut_slice.ensures.value ∙ same)) in
    let rest = drop (length c.replace_surrogates.new.bytes) c.in_ok-bytes.bytes.items in
    subst IsUtf8 (sym (lossy_written h rest is (c.in_ok-bytes.bytes.ok.0 ∙ ap length same))) (utf8_lossy_points h.points h.clean)

pub returns-clause-text : goal.returns-clause-text
returns-clause-text g c =
    let h = c.args.self.now.well_formed in
    let same = c.in_ok-bytes.ensures.items in
    let is = c.replace_surrogates.ensures (IsWellFormed-equal_bytes h (c.as_mut_slice.ensures.value ∙ same)) in
    let rest = drop (length c.replace_surrogates.new.bytes) c.in_ok-bytes.bytes.items in
    ap (λ v. v.items) c.from_utf8_unchecked.ensures.value ∙ lossy_written h rest is (c.in_ok-bytes.bytes.ok.0 ∙ ap length same)

pub returns-in-Some-clause-len : goal.returns-in-Some-clause-len
returns-in-Some-clause-len g c = ap length c.in-Some.ensures.bytes

pub returns-clause-len : goal.returns-clause-len
returns-clause-len g c =
    let h = c.args.self.now.well_formed in
    ap length (returns-clause-text g c) ∙ (length-lossy_points h.points ∙ ap length h.encoded)
