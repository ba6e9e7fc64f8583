use Rattle.std.proofs.Common.{◌++◌, ℕ, List, [], ◌∷◌, refl}
use Rattle.wtf8.specs.Surrogates.{AreScalar}
use Rattle.wtf8.proofs.lemmas.strings.StringLaws.{scalar_in_each_reading}
use Rattle.unit_text.proofs.indexed.IndexedBuf.next_surrogate.Goals as goal

scalar_back : (f b : List ℕ) → AreScalar (f ++ b) → AreScalar b
scalar_back [] b s = s
scalar_back (p ∷ f) b s = scalar_back f b s.1

pub returns-in-Some-clause-none : goal.returns-in-Some-clause-none
returns-in-Some-clause-none g c =
    let each = (scalar_in_each_reading _ _ c.args.self.now.form.reads).0 (c.in-Some.ensures.scalar refl) in (
      λ _. record {
        front = c.requires.front;
        back = c.requires.back;
        splits = c.requires.splits;
        scalar = scalar_back c.requires.front c.requires.back (each _ c.requires.splits.reads);
      },
      λ _. refl,
    )
