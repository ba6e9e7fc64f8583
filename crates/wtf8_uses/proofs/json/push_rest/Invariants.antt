use Rattle.std.proofs.Common.{◌≡◌, ◌++◌, string_bytes}
use Rattle.std.specs.List.{flat_map}
use Rattle.wtf8.specs.View.{view_points}
use Rattle.wtf8_uses.specs.Json.{Continues, json_point}
use Rattle.wtf8_uses.proofs.json.push_rest.Given as goal

-- the text so far, followed by the JSON text of the code points that are left, is constant, and it begins with the text
-- at the call
abbrev pub invariant-loop-point : goal.invariant-loop-point
invariant-loop-point g l = record {
  same : string_bytes l.json ++ flat_map json_point l.point-iterator
      ≡ string_bytes l.fn.json ++ flat_map json_point (view_points l.fn.text);
  begun : Continues (string_bytes l.fn.json) (string_bytes l.json);
}
