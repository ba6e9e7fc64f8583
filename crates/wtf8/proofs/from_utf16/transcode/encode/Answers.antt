use Rattle.wtf8.proofs.Common.{[], true}
use Rattle.wtf8.proofs.lemmas.codec.Scalars.{IsKnownForm-ascii}
use Rattle.wtf8.proofs.lemmas.from_utf16.Transcode.{read_none}
use Rattle.wtf8.proofs.from_utf16.transcode.encode.Goals as goal

pub returns-then-is_short_ascii-clause-form : goal.returns-then-is_short_ascii-clause-form
returns-then-is_short_ascii-clause-form g c =
    rw c.in_ok-narrowed.ensures (IsKnownForm-ascii c.args.v.now (c.is_short_ascii.ensures.ascii c.if-is_short_ascii.true))

pub returns-clause-form : goal.returns-clause-form
returns-clause-form g c = c.in_ok-is_utf8.ensures.ok [] (read_none true c.in_ok-bytes.ensures.items)
