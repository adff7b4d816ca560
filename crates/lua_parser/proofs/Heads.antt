-- What the first of the words that are left tells.
use Rattle.std.proofs.Common.{◌≡◌, Bool, true, false, [], ◌∷◌, drop, ap, sym}
use Rattle.lua_parser.specs.Words.{Words, Mark}
use Rattle.lua_parser.specs.Outcomes.{head_is, Eats}
use Rattle.lua_parser.proofs.Viability.Plans.{word_is}

pub eats : (m : Mark) (ts : Words) (b : Bool) → b ≡ head_is m ts → b ≡ true → Eats m ts b (drop 1 ts)
eats m [] b h g = absurd (cc)
eats m (x ∷ ts) true h g = (x.pos, ap (λ y. y ∷ ts) (word_is m x.kind x.pos (sym h)))
eats m (x ∷ ts) false h g = absurd (cc)
