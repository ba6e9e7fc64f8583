use Rattle.wtf8.proofs.lemmas.strings.Utf8Texts.{text_of_ascii}
use Rattle.wtf8.proofs.lanes.utf8.from_utf8.Goals as goal

pub from_utf8_unchecked-requires : goal.from_utf8_unchecked-requires
from_utf8_unchecked-requires c = text_of_ascii c.args.bytes.now (c.is_short_ascii.ensures c.if-is_short_ascii.true)
