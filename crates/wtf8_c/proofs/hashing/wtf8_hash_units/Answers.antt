use Rattle.std.proofs.Common.{[], ◌∷◌, ap, ◌∙◌}
use Rattle.std.specs.Hash.DefaultHasher as sip
use Rattle.wtf8_c.proofs.hashing.wtf8_hash_units.Goals as goal

pub returns : goal.returns
returns c w x =
    let fed = c.write_form.ensures w x ∙ ap (λ s. sip.write s w) c.seeded-hasher.ensures in
    c.finish.ensures ∙ ap (λ s. sip.finish s) (c.write_u8.ensures ∙ ap (λ s. sip.write s (254 ∷ [])) fed)
