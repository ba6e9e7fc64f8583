-- What equal lists have at one index.
use Rattle.wtf8.proofs.Common.{◌≡◌, ℕ, List, get_or, ap}

pub get_of : {xs ys : List ℕ} → xs ≡ ys → (k d : ℕ) → get_or xs k d ≡ get_or ys k d
get_of e k d = ap (λ l. get_or l k d) e
