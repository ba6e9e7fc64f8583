use Rattle.std.proofs.Common.{◌≡◌, ℕ, List, [], ◌++◌, take, refl, sym, ap, ◌∙◌, subst, arith}
use Rattle.std.proofs.lemmas.List.{drop_all, length-replicate}
use Rattle.std.proofs.lemmas.List.Sums.{fold-append}
use Rattle.std.specs.Hash.DefaultHasher as sip
use Rattle.std.specs.declared.hash.DefaultHasher.{DefaultHasher}
use Rattle.wtf8.specs.Form.{IsForm}
use Rattle.wtf8.proofs.lemmas.codec.Readings.{same_form}
use Rattle.wtf8_c.proofs.hashing.write_fronts.Goals as goal

-- two lists of bytes are written as both together are
write-append : (h : DefaultHasher) (v w : List ℕ) → sip.write h (v ++ w) ≡ sip.write (sip.write h v) w
unfolding sip.write
write-append h v w = fold-append sip.write_byte h v w

-- nothing is written without bytes
write-nil : (h : DefaultHasher) → sip.write h [] ≡ h
unfolding sip.write
write-nil h = refl

pub loop-rest-init : goal.loop-rest-init
loop-rest-init g c = record {
  scratch = length-replicate g.row.N 0;
  written = λ v w x y. ap (λ b. sip.write c.args.hasher.now b) (same_form v w c.args.units.now x y);
}

pub loop-rest-preserved : goal.loop-rest-preserved
loop-rest-preserved g c =
    let front = c.encode_front-front in
    let bytes = take front.result.bytes front.new.out in record {
      scratch = omega (arith, front.ensures.len, c.loop-rest.invariant.scratch);
      written = λ v w x y. c.loop-rest.invariant.written v (bytes ++ w) x
          (front.ensures.rest w (subst (λ u. IsForm w u) c.split_at.ensures.back y))
          ∙ write-append c.loop-rest.hasher bytes w ∙ ap (λ s. sip.write s w) (sym c.write.ensures);
    }

pub returns : goal.returns
returns g c w x =
    let rest = c.loop-rest.rest.now in
    let none : rest ≡ [] = drop_all 0 rest c.loop-rest-test.false in
    let empty : IsForm [] rest =
    subst (λ u. IsForm [] u) (sym none) (record { points = []; reads = record { clean = tt; same_units = refl }; encoded = refl }) in
    sym (c.loop-rest.invariant.written w [] x empty ∙ write-nil c.loop-rest.hasher)
