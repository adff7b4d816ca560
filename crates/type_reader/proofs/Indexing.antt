-- What the index of the other modules' names lends.
use Rattle.std.proofs.Common.{◌≡◌, ap, ◌∙◌}
use Rattle.std.specs.Prelude.{Option, Some, None, option_map, option_copied}
use Rattle.std.specs.Borrow.{Bor}

pub read : {T : Type 0} (r : Option (Bor (Bor T))) (o : Option (Bor T)) (e : Option T) → option_copied r ≡ o → option_copied o ≡ e → option_map (λ x. x.now.now) r ≡ e
read None None e copied is = is
read None (Some y) e copied is = cc
read (Some x) None e copied is = cc
read (Some x) (Some y) e copied is = ap (λ o. option_copied o) copied ∙ is
