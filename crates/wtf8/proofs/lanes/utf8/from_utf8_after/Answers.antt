use Rattle.wtf8.proofs.Common.{sym, take_rest}
use Rattle.std.proofs.lemmas.Str.{utf8_valid_len-IsValidUpTo}
use Rattle.wtf8.proofs.lemmas.strings.Utf8Fronts.{text_with_rest, rest_of_text, valid_after}
use Rattle.wtf8.proofs.lanes.utf8.from_utf8_after.Goals as goal

pub from_utf8_unchecked-requires : goal.from_utf8_unchecked-requires
from_utf8_unchecked-requires c = text_with_rest _ c.args.front c.requires.0 c.requires.1 (rw take_rest at c.in-Ok.ensures.cases.1)

pub returns-in-Err-clause-cases : goal.returns-in-Err-clause-cases
returns-in-Err-clause-cases c =
    let wrong = rw take_rest at c.in-Err.ensures.cases in (
      λ whole. wrong.0 (rest_of_text _ c.args.front c.requires.0 c.requires.1 whole),
      rw c.valid_up_to.ensures (valid_after _ c.args.front _ c.requires.0 c.requires.1 wrong.1),
    )

pub returns-in-Err-clause-valid_len : goal.returns-in-Err-clause-valid_len
returns-in-Err-clause-valid_len c = sym (utf8_valid_len-IsValidUpTo _ _ (returns-in-Err-clause-cases c).1)
