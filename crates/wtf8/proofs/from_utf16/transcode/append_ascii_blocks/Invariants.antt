use Rattle.wtf8.proofs.Common.{◌+◌, ◌-◌, ◌≤◌, length}
use Rattle.wtf8.proofs.lemmas.from_utf16.Transcode.{KeepsEncoding}
use Rattle.wtf8.proofs.from_utf16.transcode.append_ascii_blocks.Given as goal

abbrev pub invariant-loop-to : goal.invariant-loop-to
invariant-loop-to g l = KeepsEncoding l.fn.bytes l.bytes l.v l.fn.from l.read × (l.fn.from.at ≤ l.read.at) × (l.read.at + 32 ≤ length l.v)

abbrev pub decreases-loop-to : goal.decreases-loop-to
decreases-loop-to g l = length l.v - l.read.at
