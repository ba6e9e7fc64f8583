use Rattle.wtf8.proofs.Common.{false≢true, refl, ◌∙◌, ◌+◌, ◌-◌, [], ◌∷◌, arith, drop, sym, subst, take, Reads}
use Rattle.wtf8.proofs.lemmas.from_utf16.Decoding.{IsFirstRead-pair, IsFirstRead-unit}
use Rattle.wtf8.proofs.from_utf16.decode.read_point.Goals.{else-unit-le-LAST_LEAD-via-then-unit-le-LAST_LEAD+then-at-v+else-is_trail_unit}
use Rattle.wtf8.proofs.from_utf16.decode.read_point.Goals.{else-unit-le-LAST_LEAD-via-then-unit-le-LAST_LEAD+else-at-v}
use Rattle.wtf8.proofs.from_utf16.decode.read_point.Goals.{else-unit-le-LAST_LEAD-via-else-unit-le-LAST_LEAD}
use Rattle.wtf8.proofs.from_utf16.decode.read_point.Goals as goal

pub returns-then-unit-lt-FIRST_LEAD-clause-reads : goal.returns-then-unit-lt-FIRST_LEAD-clause-reads
returns-then-unit-lt-FIRST_LEAD-clause-reads c = subst (λ p. Reads (p ∷ [])
    (take (c.args.at + 1 - c.args.at) (drop c.args.at c.args.v.now))) (sym c.from_unit.ensures) (IsFirstRead-unit c.args.v.now c.args.at
    c.requires (omega (arith, (c.type_inv.v c.args.at).fits)) (λ l. omega (arith, l, c.then-unit-lt-FIRST_LEAD.either))).reads

pub returns-then-is_trail_unit-clause-reads : goal.returns-then-is_trail_unit-clause-reads
returns-then-is_trail_unit-clause-reads c = subst (λ p. Reads (p ∷ []) (take (c.args.at + 2 - c.args.at) (drop c.args.at c.args.v.now)))
    (sym (c.from_char.ensures ∙ c.char_of_pair-character.ensures)) (IsFirstRead-pair c.args.v.now c.args.at c.if-at-v.true
    (omega (arith, c.if-unit-lt-FIRST_LEAD.false), omega (arith, c.if-unit-le-LAST_LEAD.true)) (c.if-is_trail_unit.ensures.0 refl)).reads

pub returns-clause-reads : goal.returns-clause-reads
returns-clause-reads c =
    subst (λ p. Reads (p ∷ []) (take (c.args.at + 1 - c.args.at) (drop c.args.at c.args.v.now))) (sym c.from_unit-2.ensures)
    (IsFirstRead-unit c.args.v.now c.args.at c.requires (omega (arith, (c.type_inv.v c.args.at).fits))
    (λ lead within t. grind (arith, false≢true, c.else-unit-le-LAST_LEAD.branch))).reads
