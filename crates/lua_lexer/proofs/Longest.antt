-- The symbol that is found is the longest.
use Rattle.std.proofs.Common.{◌≡◌, ℕ, ◌<◌, ◌⊎◌, inl, inr, [], ◌∷◌, ◌++◌, length, ap, sym, ◌∙◌, subst}
use Rattle.lua_lexer.specs.Letters.{Text}
use Rattle.lua_lexer.specs.Spellings.{spelling}
use Rattle.lua_lexer.specs.Reading.{SignAt, NoSign}
use Rattle.lua_lexer.specs.declared.token.Symbol.{Symbol}
use Rattle.lua_lexer.specs.declared.token.Symbol.TheVariants as s
use Rattle.lua_lexer.proofs.Spelled.{sized, spelling_once}

-- the text that a symbol of known spelling begins
pub begun : (y : Symbol) (q : Text) {t bs : Text} → t ≡ spelling y ++ q → spelling y ≡ bs → t ≡ bs ++ q
begun y q h e = h ∙ ap (λ x. x ++ q) e

pub dots_begun : (y : Symbol) (q : Text) {t : Text} → t ≡ spelling y ++ q → y ≡ s.Dots → t ≡ 46 ∷ 46 ∷ 46 ∷ q
dots_begun y q h e = begun y q h (ap spelling e)

sign_one_longest : {t u : Text} (x : Symbol) (a : ℕ) → t ≡ a ∷ u → spelling x ≡ a ∷ [] → ((y : Symbol) (b : ℕ) (v : Text) → u ≡ b ∷ v → spelling y ≡ a ∷ b ∷ [] → ⊥) → (y : Symbol) (q : Text) → t ≡ spelling y ++ q → ((c : ℕ) × (spelling y ≡ c ∷ [])) ⊎ (((p : ℕ × ℕ) × (spelling y ≡ p.0 ∷ p.1 ∷ [])) ⊎ (y ≡ s.Dots)) → ((y ≡ x) × (q ≡ u)) ⊎ (length u < length q)
sign_one_longest x a h e none y q k (inl (c, d)) = let g = begun y q k d in inl (spelling_once y x (cc), cc)
sign_one_longest x a h e none y q k (inr (inl (p, d))) = let g = begun y q k d in absurd (none y p.1 q (cc) (cc))
sign_one_longest x a h e none y q k (inr (inr d)) = let g = dots_begun y q k d in absurd (none s.Concat 46 (46 ∷ q) (cc) (cc))

pub sign_one : {t u : Text} (x : Symbol) (a : ℕ) → t ≡ a ∷ u → spelling x ≡ a ∷ [] → ((y : Symbol) (b : ℕ) (v : Text) → u ≡ b ∷ v → spelling y ≡ a ∷ b ∷ [] → ⊥) → SignAt t x u
sign_one {u = u} x a h e none = (h ∙ ap (λ z. z ++ u) (sym e), λ y q k. sign_one_longest x a h e none y q k (sized y))

no_sign_of : {t u : Text} (a : ℕ) → t ≡ a ∷ u → ((y : Symbol) → spelling y ≡ a ∷ [] → ⊥) → ((y : Symbol) (b : ℕ) (v : Text) → u ≡ b ∷ v → spelling y ≡ a ∷ b ∷ [] → ⊥) → (y : Symbol) (q : Text) → t ≡ spelling y ++ q → ((c : ℕ) × (spelling y ≡ c ∷ [])) ⊎ (((p : ℕ × ℕ) × (spelling y ≡ p.0 ∷ p.1 ∷ [])) ⊎ (y ≡ s.Dots)) → ⊥
no_sign_of a h one two y q k (inl (c, d)) = let g = begun y q k d in one y (cc)
no_sign_of a h one two y q k (inr (inl (p, d))) = let g = begun y q k d in two y p.1 q (cc) (cc)
no_sign_of a h one two y q k (inr (inr d)) = let g = dots_begun y q k d in one s.Dot (cc)

pub no_sign : {t u : Text} (a : ℕ) → t ≡ a ∷ u → ((y : Symbol) → spelling y ≡ a ∷ [] → ⊥) → ((y : Symbol) (b : ℕ) (v : Text) → u ≡ b ∷ v → spelling y ≡ a ∷ b ∷ [] → ⊥) → NoSign t
no_sign a h one two y q k = no_sign_of a h one two y q k (sized y)

-- the symbol of one byte, where no two bytes are one
pub one_sign : {t u r : Text} (y : Symbol) (a : ℕ) → t ≡ a ∷ u → ((x : Symbol) (b : ℕ) (v : Text) → u ≡ b ∷ v → spelling x ≡ a ∷ b ∷ [] → ⊥) → (spelling y ≡ a ∷ []) × (r ≡ u) → SignAt t y r
one_sign {t = t} y a h two k = subst (λ v. SignAt t y v) (sym k.1) (sign_one y a h k.0 two)
