-- Laws of plans: what parts ensure, plans ensure.
use Rattle.std.proofs.Common.{◌≡◌, ℕ, ℤ, ◌==◌, Bool, true, false, List, [], ◌∷◌, ◌++◌, Option, Some, None, refl, sym, subst, ap, append_assoc, ◌∙◌, arith}
use Rattle.std.specs.Prelude.{if◌then◌else◌, get_or}
use Rattle.std.proofs.lemmas.Bool.Decides.{nat_tests}
use Rattle.tl_base.specs.declared.place.Pos.{Pos}
use Rattle.tl_base.specs.declared.place.ModuleKind.{ModuleKind}
use Rattle.lua_lexer.specs.declared.token.Keyword.TheVariants as w
use Rattle.lua_lexer.specs.declared.token.Symbol.TheVariants as s
use Rattle.lua_parser.specs.Words.{Word, Words, WordKind, Mark, mark, key, sign, finish, marked, named, name_at, numeral, quoted}
use Rattle.lua_parser.specs.Grammar.Types.{opens}
use Rattle.lua_parser.specs.Machine.Plan.{Item, Gives, Plan, done, want, want_name, read, Reply, stuck, ends, takes, onward}
use Rattle.lua_parser.specs.Machine.Steps.{mark_number, is_mark, if_name, if_number, if_text, begun, or_ends, or_else, going, both}
use Rattle.lua_parser.proofs.Viability.Means.{Means, Ensures}

all_marks : List Mark
all_marks = key w.And ∷ key w.Break ∷ key w.Do ∷ key w.Else ∷ key w.Elseif ∷ key w.End ∷ key w.False ∷ key w.For ∷ key w.Function ∷ key w.Goto ∷ key w.If ∷ key w.In ∷ key w.Local ∷ key w.Nil ∷ key w.Not ∷ key w.Or ∷ key w.Repeat ∷ key w.Return ∷ key w.Then ∷ key w.True ∷ key w.Until ∷ key w.While
    ∷ sign s.Plus ∷ sign s.Minus ∷ sign s.Star ∷ sign s.Slash ∷ sign s.Percent ∷ sign s.Caret ∷ sign s.Hash ∷ sign s.Ampersand ∷ sign s.Tilde ∷ sign s.Pipe ∷ sign s.ShiftLeft ∷ sign s.ShiftRight ∷ sign s.DoubleSlash ∷ sign s.Equal ∷ sign s.NotEqual ∷ sign s.LessEqual ∷ sign s.GreaterEqual ∷ sign s.Less ∷ sign s.Greater ∷ sign s.Assign ∷ sign s.OpenParen ∷ sign s.CloseParen ∷ sign s.OpenBrace ∷ sign s.CloseBrace ∷ sign s.OpenBracket ∷ sign s.CloseBracket ∷ sign s.DoubleColon ∷ sign s.Semicolon ∷ sign s.Colon ∷ sign s.Comma ∷ sign s.Dot ∷ sign s.Concat ∷ sign s.Dots ∷ sign s.Question ∷ sign s.Arrow ∷ finish ∷ []

abbrev nth : List Mark → ℕ → Mark
nth xs n = get_or xs n finish

at_number : (m : Mark) → nth all_marks (mark_number m) ≡ m
unfolding all_marks
at_number (key w.And) = refl
at_number (key w.Break) = refl
at_number (key w.Do) = refl
at_number (key w.Else) = refl
at_number (key w.Elseif) = refl
at_number (key w.End) = refl
at_number (key w.False) = refl
at_number (key w.For) = refl
at_number (key w.Function) = refl
at_number (key w.Goto) = refl
at_number (key w.If) = refl
at_number (key w.In) = refl
at_number (key w.Local) = refl
at_number (key w.Nil) = refl
at_number (key w.Not) = refl
at_number (key w.Or) = refl
at_number (key w.Repeat) = refl
at_number (key w.Return) = refl
at_number (key w.Then) = refl
at_number (key w.True) = refl
at_number (key w.Until) = refl
at_number (key w.While) = refl
at_number (sign s.Plus) = refl
at_number (sign s.Minus) = refl
at_number (sign s.Star) = refl
at_number (sign s.Slash) = refl
at_number (sign s.Percent) = refl
at_number (sign s.Caret) = refl
at_number (sign s.Hash) = refl
at_number (sign s.Ampersand) = refl
at_number (sign s.Tilde) = refl
at_number (sign s.Pipe) = refl
at_number (sign s.ShiftLeft) = refl
at_number (sign s.ShiftRight) = refl
at_number (sign s.DoubleSlash) = refl
at_number (sign s.Equal) = refl
at_number (sign s.NotEqual) = refl
at_number (sign s.LessEqual) = refl
at_number (sign s.GreaterEqual) = refl
at_number (sign s.Less) = refl
at_number (sign s.Greater) = refl
at_number (sign s.Assign) = refl
at_number (sign s.OpenParen) = refl
at_number (sign s.CloseParen) = refl
at_number (sign s.OpenBrace) = refl
at_number (sign s.CloseBrace) = refl
at_number (sign s.OpenBracket) = refl
at_number (sign s.CloseBracket) = refl
at_number (sign s.DoubleColon) = refl
at_number (sign s.Semicolon) = refl
at_number (sign s.Colon) = refl
at_number (sign s.Comma) = refl
at_number (sign s.Dot) = refl
at_number (sign s.Concat) = refl
at_number (sign s.Dots) = refl
at_number (sign s.Question) = refl
at_number (sign s.Arrow) = refl
at_number finish = refl

pub mark_once : (m n : Mark) → (mark_number m == mark_number n) ≡ true → n ≡ m
mark_once m n h = let e : mark_number m ≡ mark_number n = grind (arith, nat_tests) in sym (at_number n) ∙ ap (nth all_marks) (sym e) ∙ at_number m

pub word_is : (m : Mark) (k : WordKind) (p : Pos) → is_mark m k ≡ true → ◌≡◌ {A = Word} (record { kind = k; pos = p }) (marked m p)
word_is m (mark n) p h = ap (λ x. marked x p) (mark_once m n h)
word_is m (WordKind.name x) p h = cc
word_is m (WordKind.number x) p h = cc
word_is m (WordKind.text x) p h = cc

pub opens_is : (k : WordKind) → opens k ≡ is_mark (sign s.OpenParen) k
opens_is (mark (key w.And)) = refl
opens_is (mark (key w.Break)) = refl
opens_is (mark (key w.Do)) = refl
opens_is (mark (key w.Else)) = refl
opens_is (mark (key w.Elseif)) = refl
opens_is (mark (key w.End)) = refl
opens_is (mark (key w.False)) = refl
opens_is (mark (key w.For)) = refl
opens_is (mark (key w.Function)) = refl
opens_is (mark (key w.Goto)) = refl
opens_is (mark (key w.If)) = refl
opens_is (mark (key w.In)) = refl
opens_is (mark (key w.Local)) = refl
opens_is (mark (key w.Nil)) = refl
opens_is (mark (key w.Not)) = refl
opens_is (mark (key w.Or)) = refl
opens_is (mark (key w.Repeat)) = refl
opens_is (mark (key w.Return)) = refl
opens_is (mark (key w.Then)) = refl
opens_is (mark (key w.True)) = refl
opens_is (mark (key w.Until)) = refl
opens_is (mark (key w.While)) = refl
opens_is (mark (sign s.Plus)) = refl
opens_is (mark (sign s.Minus)) = refl
opens_is (mark (sign s.Star)) = refl
opens_is (mark (sign s.Slash)) = refl
opens_is (mark (sign s.Percent)) = refl
opens_is (mark (sign s.Caret)) = refl
opens_is (mark (sign s.Hash)) = refl
opens_is (mark (sign s.Ampersand)) = refl
opens_is (mark (sign s.Tilde)) = refl
opens_is (mark (sign s.Pipe)) = refl
opens_is (mark (sign s.ShiftLeft)) = refl
opens_is (mark (sign s.ShiftRight)) = refl
opens_is (mark (sign s.DoubleSlash)) = refl
opens_is (mark (sign s.Equal)) = refl
opens_is (mark (sign s.NotEqual)) = refl
opens_is (mark (sign s.LessEqual)) = refl
opens_is (mark (sign s.GreaterEqual)) = refl
opens_is (mark (sign s.Less)) = refl
opens_is (mark (sign s.Greater)) = refl
opens_is (mark (sign s.Assign)) = refl
opens_is (mark (sign s.OpenParen)) = refl
opens_is (mark (sign s.CloseParen)) = refl
opens_is (mark (sign s.OpenBrace)) = refl
opens_is (mark (sign s.CloseBrace)) = refl
opens_is (mark (sign s.OpenBracket)) = refl
opens_is (mark (sign s.CloseBracket)) = refl
opens_is (mark (sign s.DoubleColon)) = refl
opens_is (mark (sign s.Semicolon)) = refl
opens_is (mark (sign s.Colon)) = refl
opens_is (mark (sign s.Comma)) = refl
opens_is (mark (sign s.Dot)) = refl
opens_is (mark (sign s.Concat)) = refl
opens_is (mark (sign s.Dots)) = refl
opens_is (mark (sign s.Question)) = refl
opens_is (mark (sign s.Arrow)) = refl
opens_is (mark finish) = refl
opens_is (WordKind.name x) = refl
opens_is (WordKind.number x) = refl
opens_is (WordKind.text x) = refl

-- what a reply at a word ensures
pub Meets : {A : Type 0} → ModuleKind → (A → Words → Type 0) → Word → Reply A → Type 0
Meets kind G x stuck = Unit {0}
Meets kind G x (ends a) = G a []
Meets kind G x (takes p) = Ensures kind p (λ v ts. G v (x ∷ ts))

-- what a start at a word ensures
pub Begins : {A : Type 0} → ModuleKind → (A → Words → Type 0) → Word → Option (Plan A) → Type 0
Begins kind G x None = Unit {0}
Begins kind G x (Some p) = Ensures kind p (λ v ts. G v (x ∷ ts))

module _ (kind : ModuleKind) where
  pub ensures_map : {A : Type 0} (F G : A → Words → Type 0) (p : Plan A) → ((v : A) (ts : Words) → F v ts → G v ts) → Ensures kind p F → Ensures kind p G
  ensures_map F G (done a) h f = h a [] f
  ensures_map F G (want m k) h f = λ q. ensures_map (λ v ts. F v (marked m q ∷ ts)) (λ v ts. G v (marked m q ∷ ts)) (k q) (λ v ts. h v (marked m q ∷ ts)) (f q)
  ensures_map F G (want_name k) h f = λ x. ensures_map (λ v ts. F v (named x ∷ ts)) (λ v ts. G v (named x ∷ ts)) (k x) (λ v ts. h v (named x ∷ ts)) (f x)
  ensures_map F G (read j k) h f = λ x ts m. ensures_map (λ v us. F v (ts ++ us)) (λ v us. G v (ts ++ us)) (k x) (λ v us. h v (ts ++ us)) (f x ts m)

  pub ensures_onward : {A B : Type 0} (F : A → Words → Type 0) (G : B → Words → Type 0) (p : Plan A) (k : A → Plan B)
      → ((x : A) (ts : Words) → F x ts → Ensures kind (k x) (λ v us. G v (ts ++ us))) → Ensures kind p F → Ensures kind (onward p k) G
  ensures_onward F G (done a) k h f = h a [] f
  ensures_onward F G (want m c) k h f = λ q. ensures_onward (λ x ts. F x (marked m q ∷ ts)) (λ x ts. G x (marked m q ∷ ts)) (c q) k (λ x ts. h x (marked m q ∷ ts)) (f q)
  ensures_onward F G (want_name c) k h f = λ y. ensures_onward (λ x ts. F x (named y ∷ ts)) (λ x ts. G x (named y ∷ ts)) (c y) k (λ x ts. h x (named y ∷ ts)) (f y)
  ensures_onward F G (read j c) k h f =
      λ y ts m. ensures_onward (λ v us. F v (ts ++ us)) (λ v us. G v (ts ++ us)) (c y) k (λ x us g. ensures_map (λ v vs. G v (ts ++ us ++ vs)) (λ v vs. G v (ts ++ (us ++ vs))) (k x) (λ v vs. subst (G v) (append_assoc ts us vs)) (h x (ts ++ us) g)) (f y ts m)

  pub begins_as : {A : Type 0} (F G : A → Words → Type 0) (x : Word) (o : Option (Plan A)) → ((v : A) (ts : Words) → F v ts → G v ts) → Begins kind F x o → Begins kind G x o
  unfolding Begins
  begins_as F G x None h b = tt
  begins_as F G x (Some p) h b = ensures_map (λ v ts. F v (x ∷ ts)) (λ v ts. G v (x ∷ ts)) p (λ v ts f. h v (x ∷ ts) f) b

  pub meets_as : {A : Type 0} (F G : A → Words → Type 0) (x : Word) (r : Reply A) → ((v : A) (ts : Words) → F v ts → G v ts) → Meets kind F x r → Meets kind G x r
  unfolding Meets
  meets_as F G x stuck h b = tt
  meets_as F G x (ends a) h b = h a [] b
  meets_as F G x (takes p) h b = ensures_map (λ v ts. F v (x ∷ ts)) (λ v ts. G v (x ∷ ts)) p (λ v ts f. h v (x ∷ ts) f) b

  module _ {A : Type 0} (G : A → Words → Type 0) where
    pub begins_if : (m : Mark) (p : Pos) (k : WordKind) (f : Plan A) (o : Option (Plan A)) → Ensures kind f (λ v ts. G v (marked m p ∷ ts))
        → Begins kind G (record { kind = k; pos = p }) o → Begins kind G (record { kind = k; pos = p }) (if is_mark m k then Some f else o)
    unfolding Begins Meets
    begins_if m p k f o h r = go (is_mark m k) refl
      where
        go : (c : Bool) → is_mark m k ≡ c → Begins kind G (record { kind = k; pos = p }) (if c then Some f else o)
        go true e = subst (λ (y : Word). Ensures kind f (λ v ts. G v (y ∷ ts))) (sym (word_is m k p e)) h
        go false e = r

    pub meets_if : (m : Mark) (p : Pos) (k : WordKind) (f : Plan A) (o : Reply A) → Ensures kind f (λ v ts. G v (marked m p ∷ ts))
        → Meets kind G (record { kind = k; pos = p }) o → Meets kind G (record { kind = k; pos = p }) (if is_mark m k then takes f else o)
    unfolding Begins Meets
    meets_if m p k f o h r = go (is_mark m k) refl
      where
        go : (c : Bool) → is_mark m k ≡ c → Meets kind G (record { kind = k; pos = p }) (if c then takes f else o)
        go true e = subst (λ (y : Word). Ensures kind f (λ v ts. G v (y ∷ ts))) (sym (word_is m k p e)) h
        go false e = r

    pub meets_if_not : (m : Mark) (p : Pos) (k : WordKind) (f : Plan A) (o : Reply A) → Ensures kind f (λ v ts. G v (marked m p ∷ ts))
        → (is_mark m k ≡ false → Meets kind G (record { kind = k; pos = p }) o) → Meets kind G (record { kind = k; pos = p }) (if is_mark m k then takes f else o)
    unfolding Begins Meets
    meets_if_not m p k f o h r = go (is_mark m k) refl
      where
        go : (c : Bool) → is_mark m k ≡ c → Meets kind G (record { kind = k; pos = p }) (if c then takes f else o)
        go true e = subst (λ (y : Word). Ensures kind f (λ v ts. G v (y ∷ ts))) (sym (word_is m k p e)) h
        go false e = r e

    pub meets_either : (x : Word) (c : Bool) (r o : Reply A) → (c ≡ true → Meets kind G x r) → (c ≡ false → Meets kind G x o) → Meets kind G x (if c then r else o)
    unfolding Begins Meets
    meets_either x true r o f g = f refl
    meets_either x false r o f g = g refl

    pub meets_name : (p : Pos) (k : WordKind) (f : List ℕ → Reply A) (o : Reply A) → ((n : List ℕ) → Meets kind G (named (name_at p n)) (f n))
        → Meets kind G (record { kind = k; pos = p }) o → Meets kind G (record { kind = k; pos = p }) (if_name k f o)
    unfolding Begins Meets
    meets_name p (WordKind.name n) f o h r = h n
    meets_name p (mark n) f o h r = r
    meets_name p (WordKind.number n) f o h r = r
    meets_name p (WordKind.text n) f o h r = r

    pub meets_begun : (x : Word) (o : Option (Plan A)) → Begins kind G x o → Meets kind G x (begun o)
    unfolding Begins Meets
    meets_begun x None b = tt
    meets_begun x (Some p) b = b

    pub meets_or_ends : (x : Word) (o : Option (Plan A)) (a : A) → Begins kind G x o → G a [] → Meets kind G x (or_ends o a)
    unfolding Begins Meets
    meets_or_ends x None a b g = g
    meets_or_ends x (Some p) a b g = b

    pub meets_or_else : (x : Word) (o : Option (Plan A)) (r : Reply A) → Begins kind G x o → Meets kind G x r → Meets kind G x (or_else o r)
    unfolding Begins Meets
    meets_or_else x None r b g = g
    meets_or_else x (Some p) r b g = b

    pub begins_going : {B : Type 0} (F : B → Words → Type 0) (x : Word) (o : Option (Plan B)) (f : B → Plan A) → Begins kind F x o
        → ((v : B) (ts : Words) → F v ts → Ensures kind (f v) (λ u us. G u (ts ++ us))) → Begins kind G x (going o f)
    unfolding Begins Meets
    begins_going F x None f b h = tt
    begins_going F x (Some p) f b h = ensures_onward (λ v ts. F v (x ∷ ts)) (λ v ts. G v (x ∷ ts)) p f (λ v ts. h v (x ∷ ts)) b

    pub meets_both : {B : Type 0} (F : B → Words → Type 0) (x : Word) (o : Reply B) (r : B → Reply A) (f : B → Plan A) → Meets kind F x o
        → ((v : B) → F v [] → Meets kind G x (r v)) → ((v : B) (ts : Words) → F v ts → Ensures kind (f v) (λ u us. G u (ts ++ us))) → Meets kind G x (both o r f)
    unfolding Begins Meets
    meets_both F x stuck r f b g h = tt
    meets_both F x (ends v) r f b g h = g v b
    meets_both F x (takes p) r f b g h = ensures_onward (λ v ts. F v (x ∷ ts)) (λ v ts. G v (x ∷ ts)) p f (λ v ts. h v (x ∷ ts)) b

    pub begins_name : (p : Pos) (k : WordKind) (f : List ℕ → Option (Plan A)) (o : Option (Plan A)) → ((n : List ℕ) → Begins kind G (named (name_at p n)) (f n))
        → Begins kind G (record { kind = k; pos = p }) o → Begins kind G (record { kind = k; pos = p }) (if_name k f o)
    unfolding Begins Meets
    begins_name p (WordKind.name n) f o h r = h n
    begins_name p (mark n) f o h r = r
    begins_name p (WordKind.number n) f o h r = r
    begins_name p (WordKind.text n) f o h r = r

    pub begins_number : (p : Pos) (k : WordKind) (f : ℤ → Option (Plan A)) (o : Option (Plan A)) → ((n : ℤ) → Begins kind G (numeral n p) (f n))
        → Begins kind G (record { kind = k; pos = p }) o → Begins kind G (record { kind = k; pos = p }) (if_number k f o)
    unfolding Begins Meets
    begins_number p (WordKind.number n) f o h r = h n
    begins_number p (mark n) f o h r = r
    begins_number p (WordKind.name n) f o h r = r
    begins_number p (WordKind.text n) f o h r = r

    pub begins_text : (p : Pos) (k : WordKind) (f : List ℕ → Option (Plan A)) (o : Option (Plan A)) → ((n : List ℕ) → Begins kind G (quoted n p) (f n))
        → Begins kind G (record { kind = k; pos = p }) o → Begins kind G (record { kind = k; pos = p }) (if_text k f o)
    unfolding Begins Meets
    begins_text p (WordKind.text n) f o h r = h n
    begins_text p (mark n) f o h r = r
    begins_text p (WordKind.name n) f o h r = r
    begins_text p (WordKind.number n) f o h r = r

    pub meets_number : (p : Pos) (k : WordKind) (f : ℤ → Reply A) (o : Reply A) → ((n : ℤ) → Meets kind G (numeral n p) (f n))
        → Meets kind G (record { kind = k; pos = p }) o → Meets kind G (record { kind = k; pos = p }) (if_number k f o)
    unfolding Begins Meets
    meets_number p (WordKind.number n) f o h r = h n
    meets_number p (mark n) f o h r = r
    meets_number p (WordKind.name n) f o h r = r
    meets_number p (WordKind.text n) f o h r = r

    pub meets_text : (p : Pos) (k : WordKind) (f : List ℕ → Reply A) (o : Reply A) → ((n : List ℕ) → Meets kind G (quoted n p) (f n))
        → Meets kind G (record { kind = k; pos = p }) o → Meets kind G (record { kind = k; pos = p }) (if_text k f o)
    unfolding Begins Meets
    meets_text p (WordKind.text n) f o h r = h n
    meets_text p (mark n) f o h r = r
    meets_text p (WordKind.name n) f o h r = r
    meets_text p (WordKind.number n) f o h r = r

    pub meets_stuck : (x : Word) → Meets kind G x stuck
    unfolding Meets
    meets_stuck x = tt

    pub meets_ends : (x : Word) (a : A) → G a [] → Meets kind G x (ends a)
    unfolding Meets
    meets_ends x a g = g

    pub meets_takes : (x : Word) (p : Plan A) → Ensures kind p (λ v ts. G v (x ∷ ts)) → Meets kind G x (takes p)
    unfolding Meets
    meets_takes x p g = g

    pub begins_none : (x : Word) → Begins kind G x None
    unfolding Begins
    begins_none x = tt

    pub begins_with : (x : Word) (o : Option (Plan A)) → Begins kind G x o → Begins kind (λ v ts. G v ts × ((us : Words) × (ts ≡ x ∷ us))) x o
    unfolding Begins
    begins_with x None b = tt
    begins_with x (Some p) b = ensures_map (λ v ts. G v (x ∷ ts)) (λ v ts. G v (x ∷ ts) × ((us : Words) × (x ∷ ts ≡ x ∷ us))) p (λ v ts g. (g, (ts, refl))) b

    pub begins_some : (x : Word) (p : Plan A) → Ensures kind p (λ v ts. G v (x ∷ ts)) → Begins kind G x (Some p)
    unfolding Begins
    begins_some x p g = g

    pub meets_read : (x : Word) (j : Item) (r : Reply (Gives j)) (m : Gives j → Reply A) (k : Gives j → Plan A) → Meets kind (Means kind j) x r → Ensures kind (read j k) G → ((a : Gives j) → Ensures kind (k a) G → Meets kind G x (m a))
        → Meets kind G x (elim r as (λ y. Reply A) [ stuck ↦ stuck | ends a ↦ m a | takes p ↦ takes (onward p k) ])
    unfolding Meets
    meets_read x j stuck m k b g h = tt
    meets_read x j (ends a) m k b g h = h a (g a [] b)
    meets_read x j (takes p) m k b g h = ensures_onward (λ v ts. Means kind j v (x ∷ ts)) (λ v ts. G v (x ∷ ts)) p k (λ v ts. g v (x ∷ ts)) b

    pub meets_taken : (x : Word) (r : Reply A) (p : Plan A) → r ≡ takes p → Meets kind G x r → Ensures kind p (λ v ts. G v (x ∷ ts))
    unfolding Meets
    meets_taken x (takes q) p e b = let d : q ≡ p = cc in subst (λ z. Ensures kind z (λ v ts. G v (x ∷ ts))) d b
    meets_taken x stuck p e b = cc
    meets_taken x (ends a) p e b = cc
