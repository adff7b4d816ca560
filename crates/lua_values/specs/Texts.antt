-- What a table's hash reads of a text, a string as bytes (Lua 5.3 manual, section 2.1), and that equal texts are read alike.
use Rattle.std.specs.Prelude.{◌≡◌, ℕ, List, [], ◌∷◌, true, nat_eq}
use Rattle.std.specs.Cmp.{unsigned_Decides}
use Rattle.std.specs.Cmp.Lexicographic.{pointwise, pointwise_decides}
use Rattle.std.specs.Hash as fed
use Rattle.std.proofs.Common.{ap}

-- a text is written at once
abbrev pub text_writes : List ℕ → fed.HashWrites
text_writes bytes = bytes ∷ []

pub text_alike : (x y : List ℕ) → pointwise nat_eq x y ≡ true → text_writes x ≡ text_writes y
text_alike x y same = ap text_writes ((pointwise_decides unsigned_Decides x y).0 same)
