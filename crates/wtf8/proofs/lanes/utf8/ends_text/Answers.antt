use Rattle.wtf8.proofs.Common.{◌-◌, arith}
use Rattle.wtf8.proofs.lemmas.strings.Utf8Texts.{text_before_end, text_before_lead}
use Rattle.wtf8.proofs.lanes.utf8.ends_text.Goals as goal

pub returns-then-bytes-end-ge192-clause-utf8 : goal.returns-then-bytes-end-ge192-clause-utf8
returns-then-bytes-end-ge192-clause-utf8 c =
    text_before_lead c.args.bytes.now c.args.end (c.args.end - 1) c.requires (omega arith) c.if-bytes-end-ge192.true

pub returns-then-bytes-end-ge224-clause-utf8 : goal.returns-then-bytes-end-ge224-clause-utf8
returns-then-bytes-end-ge224-clause-utf8 c =
    text_before_lead c.args.bytes.now c.args.end (c.args.end - 2) c.requires (omega arith) (omega (arith, c.if-bytes-end-ge224.true))

pub returns-then-bytes-end-ge240-clause-utf8 : goal.returns-then-bytes-end-ge240-clause-utf8
returns-then-bytes-end-ge240-clause-utf8 c =
    text_before_lead c.args.bytes.now c.args.end (c.args.end - 3) c.requires (omega arith) (omega (arith, c.if-bytes-end-ge240.true))

pub returns-else-bytes-end-ge240-clause-utf8 : goal.returns-else-bytes-end-ge240-clause-utf8
returns-else-bytes-end-ge240-clause-utf8 c = text_before_end c.args.bytes.now c.args.end c.if-end-lt-BEFORE.false c.requires
    (c.if-bytes-end-ge240.false, c.if-bytes-end-ge224.false, c.if-bytes-end-ge192.false)
