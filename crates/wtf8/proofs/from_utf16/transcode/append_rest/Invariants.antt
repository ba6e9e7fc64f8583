use Rattle.wtf8.proofs.Common.{◌≡◌, ◌≤◌, ◌++◌, IsTrue, bytes, map, point_of_item, AreScalar, vec_capacity}
use Rattle.wtf8.proofs.from_utf16.transcode.append_rest.Given as goal

abbrev pub invariant-loop-item : goal.invariant-loop-item
invariant-loop-item g l = record {
  encoded : l.bytes.items ≡ l.initial.bytes.items ++ bytes (map point_of_item l.yielded);
  flags : IsTrue l.is_utf8 → IsTrue l.initial.is_utf8 × AreScalar (map point_of_item l.yielded);
  capacity : vec_capacity l.initial.bytes ≤ vec_capacity l.bytes;
}
