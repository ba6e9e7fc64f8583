use Rattle.wtf8_uses.proofs.refusals.push_list.Goals as goal

pub returns-in-Err-clause-kept : goal.returns-in-Err-clause-kept
returns-in-Err-clause-kept g c = λ v calls fit.
    absurd (cc (c.in-Err.ensures.room v calls (c.law_room.ensures.fits c.reserve.new.self v _ fit c.in_ok-reserve.ensures.ok)))
