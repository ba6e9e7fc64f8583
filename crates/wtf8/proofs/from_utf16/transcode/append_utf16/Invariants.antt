use Rattle.wtf8.proofs.Common.{◌-◌, length}
use Rattle.wtf8.proofs.lemmas.from_utf16.Transcode.{KeepsEncoding}
use Rattle.wtf8.proofs.from_utf16.transcode.append_utf16.Given as goal

abbrev pub invariant-loop-read : goal.invariant-loop-read
invariant-loop-read g l = KeepsEncoding l.fn.bytes l.bytes l.v l.fn.from l.read

abbrev pub decreases-loop-read : goal.decreases-loop-read
decreases-loop-read g l = length l.v - l.read.at

abbrev pub invariant-loop-read-2 : goal.invariant-loop-read-2
invariant-loop-read-2 g l = KeepsEncoding l.fn.bytes l.bytes l.v l.fn.from l.read

abbrev pub decreases-loop-read-2 : goal.decreases-loop-read-2
decreases-loop-read-2 g l = length l.v - l.read.at
