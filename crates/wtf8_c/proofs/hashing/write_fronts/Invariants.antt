use Rattle.std.proofs.Common.{◌≡◌, ℕ, List, length}
use Rattle.std.specs.Hash.DefaultHasher as sip
use Rattle.wtf8.specs.Form.{IsForm}
use Rattle.wtf8_c.proofs.hashing.write_fronts.Given as goal

-- the form of the units that are left, written to the hasher, makes it what the form of all units makes of the first one
abbrev pub invariant-loop-rest : goal.invariant-loop-rest
invariant-loop-rest g l = record {
  scratch : length l.scratch ≡ g.row.N;
  written : (v w : List ℕ) → IsForm v l.units → IsForm w l.rest → sip.write l.initial.hasher v ≡ sip.write l.hasher w;
}

abbrev pub decreases-loop-rest : goal.decreases-loop-rest
decreases-loop-rest g l = length l.rest
