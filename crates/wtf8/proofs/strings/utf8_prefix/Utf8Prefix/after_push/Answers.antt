use Rattle.wtf8.proofs.Common.{ap, sym, subst, length, AreScalar}
use Rattle.wtf8.proofs.lemmas.codec.Readings.{points-nil}
use Rattle.wtf8.proofs.strings.utf8_prefix.Utf8Prefix.after_push.Goals as goal

pub returns-then-is_empty-clause-scalar : goal.returns-then-is_empty-clause-scalar
returns-then-is_empty-clause-scalar c _ =
    subst AreScalar (sym (points-nil c.args.other.well_formed (ap length (c.is_empty.ensures.bytes.0 c.if-is_empty.true)))) tt
