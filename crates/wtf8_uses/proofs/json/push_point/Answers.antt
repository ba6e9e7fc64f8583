use Rattle.std.proofs.Common.{◌≡◌, ◌≢◌, arith}
use Rattle.std.proofs.lemmas.Grind.{common_steps}
use Rattle.std.specs.Char.{encode_utf8}
use Rattle.wtf8.specs.CodePoint.{number}
use Rattle.wtf8.specs.Unicode.{IsSurrogate}
use Rattle.wtf8_uses.specs.Json.{json_point}
use Rattle.wtf8_uses.proofs.JsonLemmas.{json_point-bytes}
use Rattle.wtf8_uses.proofs.json.push_point.Goals as goal
use Rattle.wtf8_uses.proofs.json.push_point.Goals.{in_default-via-then-this-lt55296, in_default-via-else-this-lt55296+else-this-lt57344}

pub returns-in_default : goal.returns-in_default
returns-in_default g c =
    let p = number c.args.point in
    let quote : p ≢ 0x22 = omega arith in
    let backslash : p ≢ 0x5C = omega arith in
    let surrogate : ¬ (IsSurrogate p) = λ s. elim c.in_default.branch [
      | in_default-via-then-this-lt55296 w ↦ omega (arith, s.0)
      | in_default-via-else-this-lt55296+else-this-lt57344 w ↦ omega (arith, s.1)
    ] in
    let same = c.to_char_lossy.ensures.scalar surrogate in
    let itself : json_point p ≡ encode_utf8 c.to_char_lossy.result = rw same (json_point-bytes p (omega arith) quote backslash surrogate) in
    grind (arith, common_steps, itself)
