use Rattle.wtf8.proofs.Common.{◌∙◌, ap, sym, subst, IsUtf8, bytes}
use Rattle.wtf8.proofs.lemmas.strings.Surrogates.{lossy_points-scalar, split_at_first_surrogate, scalar_if_none, utf8_if_none}
use Rattle.wtf8.proofs.strings.view.Wtf8.split_at_surrogate.Goals as goal

pub from_utf8_unchecked-requires : goal.from_utf8_unchecked-requires
from_utf8_unchecked-requires c = utf8_if_none c.args.self.well_formed c.in_default.ensures

pub returns-in_default-clause-none : goal.returns-in_default-clause-none
returns-in_default-clause-none c =
    let h = c.args.self.well_formed in
    ap bytes (lossy_points-scalar h.points (scalar_if_none h c.in_default.ensures)) ∙ (h.encoded ∙ sym c.from_utf8_unchecked.ensures)

pub from_utf8_unchecked-text-requires : goal.from_utf8_unchecked-text-requires
from_utf8_unchecked-text-requires c =
    subst IsUtf8 (sym c.split_at.ensures.front) (split_at_first_surrogate c.args.self.well_formed c.in-Some.position c.in-Some.ensures).text

pub skip_bytes-requires : goal.skip_bytes-requires
skip_bytes-requires c =
    let parts = split_at_first_surrogate c.args.self.well_formed c.in-Some.position c.in-Some.ensures in
    record { within = parts.within; well_formed = parts.rest }

pub returns-clause-some : goal.returns-clause-some
returns-clause-some c =
    let parts = split_at_first_surrogate c.args.self.well_formed c.in-Some.position c.in-Some.ensures in
    parts.lossy_parts ∙ simp (c.from_utf8_unchecked-text.ensures ∙ c.split_at.ensures.front, c.skip_bytes.ensures.points parts.rest)
