-- How far parts of a text reach, as the code finds them.
use Rattle.std.specs.Prelude.{◌≡◌, ℕ, ◌<◌, Bool, true, false, ◌⊎◌, [], ◌∷◌, ◌++◌, length, if◌then◌else◌}
use Rattle.lua_lexer.specs.Letters.{Text, is_word_byte}
use Rattle.lua_lexer.specs.Numerals.{in_numeral}
use Rattle.lua_lexer.specs.Spellings.{spelling}
use Rattle.lua_lexer.specs.Strings.{Ends}
use Rattle.lua_lexer.specs.Brackets.{Fence, Opens, Shuts, Closes}
use Rattle.lua_lexer.specs.Tokens.{Separator}
use Rattle.lua_lexer.specs.declared.token.Symbol.{Symbol}
use Rattle.lua_lexer.specs.declared.token.Symbol.TheVariants as s

-- the text behind the letters, digits and `_` at its front
abbrev pub behind_word : Text → Text
behind_word [] = []
behind_word (b ∷ t) = if is_word_byte b then behind_word t else b ∷ t

-- the text behind the bytes at its front that go on a numeral with this last byte
abbrev pub behind_numeral : Bool → ℕ → Text → Text
behind_numeral hexadecimal last [] = []
behind_numeral hexadecimal last (b ∷ t) = if in_numeral hexadecimal last b then behind_numeral hexadecimal b t else b ∷ t

-- the text behind the bytes at its front that are allowed, each behind the one before it
abbrev pub rest_of : (ℕ → ℕ → Bool) → ℕ → Text → Text
rest_of allowed last [] = []
rest_of allowed last (b ∷ t) = if allowed last b then rest_of allowed b t else b ∷ t

-- The symbol is the longest that is spelled at the front.
abbrev pub SignAt : Text → Symbol → Text → Type 0
SignAt t x r = (t ≡ spelling x ++ r) × ((y : Symbol) (q : Text) → t ≡ spelling y ++ q → ((y ≡ x) × (q ≡ r)) ⊎ (length r < length q))

abbrev pub NoSign : Text → Type 0
NoSign t = (y : Symbol) (q : Text) → t ≡ spelling y ++ q → ⊥

-- Two dots before a third are three.
abbrev pub IsDotted : Symbol → Text → Symbol → Text → Type 0
IsDotted x t y r = ((x ≡ s.Concat) × (t ≡ 46 ∷ r) × (y ≡ s.Dots)) ⊎ ((y ≡ x) × (r ≡ t) × (x ≡ s.Concat → (u : Text) → t ≡ 46 ∷ u → ⊥))

abbrev pub NoFence : ℕ → Text → Type 0
NoFence last t = (n : ℕ) (r : Text) → Fence last n t r → ⊥

abbrev pub NeverOpens : Text → Type 0
NeverOpens t = (n : ℕ) (r : Text) → Opens n t r → ⊥

abbrev pub NeverShuts : ℕ → Text → Type 0
NeverShuts level t = (r : Text) → Shuts level t r → ⊥

abbrev pub NeverCloses : ℕ → Text → Type 0
NeverCloses level t = (bs r : Text) → Closes level t bs r → ⊥

abbrev pub NeverEnds : ℕ → Text → Type 0
NeverEnds quote t = (r : Text) → Ends quote t r → ⊥

abbrev pub NoSeparator : Text → Type 0
NoSeparator t = (u : Text) → Separator t u → ⊥

-- what follows a comment, from behind its `--`
abbrev pub Comment : Text → Text → Type 0
Comment t r = Separator (45 ∷ 45 ∷ t) r

abbrev pub NoComment : Text → Type 0
NoComment t = (r : Text) → Separator (45 ∷ 45 ∷ t) r → ⊥

-- The second text is an end of the first.
abbrev pub EndsWith : Text → Text → Type 0
EndsWith t r = (pre : Text) × (t ≡ pre ++ r)

-- whether a comment with a long bracket begins
abbrev pub IsCommentTest : Text → Bool → Type 0
IsCommentTest x true = (t : Text) × (x ≡ 45 ∷ 45 ∷ t) × ((n : ℕ) × (u : Text) × Opens n t u)
IsCommentTest x false = (t : Text) → x ≡ 45 ∷ 45 ∷ t → NeverOpens t
