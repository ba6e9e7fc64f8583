use Rattle.wtf8.proofs.Common.{◌+◌, sym, subst}
use Rattle.wtf8.proofs.lemmas.strings.Surrogates.{Replacing, replacing_step, replacing_end, none_found}
use Rattle.wtf8.proofs.strings.lossy.replace_surrogates.Goals as goal

pub write_replacement-requires : goal.write_replacement-requires
write_replacement-requires c =
    (replacing_step c.requires.points c.loop-found.bytes c.loop-found.from c.in-Some.found
    (c.loop-found.invariant c.requires) c.in-Some.ensures).0

pub loop-found-preserved : goal.loop-found-preserved
loop-found-preserved c h =
    subst (λ w. Replacing h.points w (c.in-Some.found + 3)) (sym c.write_replacement.ensures)
    (replacing_step h.points c.loop-found.bytes c.loop-found.from c.in-Some.found (c.loop-found.invariant h) c.in-Some.ensures).1

pub returns : goal.returns
returns c h = replacing_end h.points c.loop-found.bytes c.loop-found.from (c.loop-found.invariant h)
    (none_found c.loop-found.bytes c.loop-found.from c.next_surrogate.result c.next_surrogate.ensures c.in_default.not-Some)
