-- What the calls that count a token say.
use Rattle.std.specs.Prelude.{◌≡◌, ◌∷◌, Bool, true, false}
use Rattle.lua_parser.specs.Words.{WordKind}
use Rattle.lua_parser.specs.declared.signs.Sign.{Sign}
use Rattle.lua_parser.specs.Counting.Count.{Count, meet}

-- The token is taken, or it isn't and something else comes.
abbrev pub Chooses : (Count → Count) → Count → Bool → Count → Type 0
Chooses f old true new = (other : Count) → f other ≡ new
Chooses f old false new = (new ≡ old) × ((other : Count) → f other ≡ other)

-- The token is taken by the sign that was expected first, or what is expected behind it meets the token.
abbrev pub Meets : Sign → WordKind → Count → Bool → Count → Type 0
Meets s k old true new = meet (s ∷ old.expected) old.height k old.reached ≡ new
Meets s k old false new = (new.expected ≡ old.expected) × (meet (s ∷ old.expected) old.height k old.reached ≡ meet new.expected new.height k new.reached)
