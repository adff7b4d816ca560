-- Long brackets (Lua 5.3 manual, 3.1).
use Rattle.std.specs.Prelude.{◌≡◌, ℕ, zero, suc, false, Some, None, [], ◌∷◌}
use Rattle.lua_lexer.specs.Letters.{Text, is_line_byte}
use Rattle.lua_lexer.specs.Lines.{behind_line_end}

-- so many `=` and this byte, and what follows
pub data Fence (last : ℕ) : ℕ → Text → Text → Type 0 where
  done : {t : Text} → Fence last zero (last ∷ t) t
  more : {n : ℕ} {t r : Text} → Fence last n t r → Fence last (suc n) (61 ∷ t) r

-- `[`, as many `=` as the level says, and `[`
pub data Opens (level : ℕ) : Text → Text → Type 0 where
  opens : {t r : Text} → Fence 91 level t r → Opens level (91 ∷ t) r

-- `]`, as many `=` as the level says, and `]`
pub data Shuts (level : ℕ) : Text → Text → Type 0 where
  shuts : {t r : Text} → Fence 93 level t r → Shuts level (93 ∷ t) r

-- from behind an opening bracket: the text before the first closing one of the level, and what follows that
pub data Closes (level : ℕ) : Text → Text → Text → Type 0 where
  here : {t r : Text} → Shuts level t r → Closes level t [] r
  further : {t bs r : Text} (b : ℕ) → ((u : Text) → Shuts level (b ∷ t) u → ⊥) → Closes level t bs r → Closes level (b ∷ t) (b ∷ bs) r

-- Each line end becomes one LF.
pub data Unified : Text → Text → Type 0 where
  nothing : Unified [] []
  byte : {t out : Text} (b : ℕ) → is_line_byte b ≡ false → Unified t out → Unified (b ∷ t) (b ∷ out)
  line : {t u out : Text} → behind_line_end t ≡ Some u → Unified u out → Unified t (10 ∷ out)

-- what a long string means by the text between its brackets: a line end directly behind the opening is dropped
pub data Meant : Text → Text → Type 0 where
  dropped : {t u out : Text} → behind_line_end t ≡ Some u → Unified u out → Meant t out
  whole : {t out : Text} → behind_line_end t ≡ None → Unified t out → Meant t out
