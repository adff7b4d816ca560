-- What stands at a place of a list, or what counts in its stead past the end.
use Rattle.std.proofs.Common.{◌≡◌, refl, sym, ap, ◌∙◌, ℕ, List, Option, Some, None, slice_get, slice_index_or}
use Rattle.std.specs.Option.{unwrap_or}
use Rattle.std.proofs.lemmas.Option.{unwrap_or-slice_get}

pub past_end : {A : Type 0} (d : A) (xs : List A) (i : ℕ) → None ≡ slice_get xs i → d ≡ slice_index_or xs i d
past_end d xs i e = ap (λ o. unwrap_or o d) e ∙ unwrap_or-slice_get xs i d
