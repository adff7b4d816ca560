-- The library's names by a program's spelling, as a function.
use Rattle.std.proofs.Common.{◌≡◌, ◌≢◌, ℕ, Bool, true, false, List, [], ◌∷◌, Option, Some, None, refl, ap, sym, ◌∙◌, subst, cond}
use Rattle.std.specs.Prelude.{◌&&◌, find}
use Rattle.std.specs.Str.{bytes_eq}
use Rattle.std.specs.Cmp.Lexicographic.{same_text}
use Rattle.lua_tree.specs.Names.{spelling}
use Rattle.lua_tree.specs.Scopes.Library.{named, is_at, all_names}
use Rattle.lua_tree.specs.declared.names.LibName.{LibName}
use Rattle.lua_tree.specs.declared.names.LibName.TheVariants as lib

abbrev IsNamed : Option (List ℕ × List ℕ) → LibName → Type 0
IsNamed None n = Unit {0}
IsNamed (Some p) n = named p.0 p.1 ≡ Some n

each_named : (n : LibName) → IsNamed (spelling n) n
unfolding named
each_named lib.IpairsStep = tt
each_named _ = refl

pub named_found : (n : LibName) (table key : List ℕ) → spelling n ≡ Some (table, key) → named table key ≡ Some n
named_found n table key e = let P : Option (List ℕ × List ℕ) → Type 0 = λ o. IsNamed o n in subst P e (each_named n)

passes_at : (p : LibName → Bool) (ns : List LibName) (m n : LibName) (b : Bool) → p m ≡ b → cond b (Some m) (find p ns) ≡ Some n → (find p ns ≡ Some n → p n ≡ true) → p n ≡ true
passes_at p ns m n true is e next = let same : m ≡ n = cc in ap p (sym same) ∙ is
passes_at p ns m n false is e next = next e

passes : (p : LibName → Bool) (ns : List LibName) (n : LibName) → find p ns ≡ Some n → p n ≡ true
passes p [] n e = cc
passes p (m ∷ ns) n e = passes_at p ns m n (p m) refl e (passes p ns n)

both : (a b : Bool) → (a && b) ≡ true → (a ≡ true) × (b ≡ true)
both true b e = (refl, e)
both false b e = cc

at_place : (o : Option (List ℕ × List ℕ)) (table key : List ℕ) → is_at table key o ≡ true → o ≡ Some (table, key)
at_place None table key e = cc
at_place (Some p) table key e =
    let h = both (bytes_eq p.0 table) (bytes_eq p.1 key) e in
    let t = same_text p.0 table (sym h.0) in
    let k = same_text p.1 key (sym h.1) in
    ap (λ x. Some (x, p.1)) t ∙ ap (λ y. Some (table, y)) k

pub named_spelled : (table key : List ℕ) (n : LibName) → named table key ≡ Some n → spelling n ≡ Some (table, key)
unfolding named
named_spelled table key n e = at_place (spelling n) table key (passes (λ m. is_at table key (spelling m)) all_names n e)

none_named : (table key : List ℕ) (o : Option LibName) → named table key ≡ o → ((n : LibName) → spelling n ≢ Some (table, key)) → None ≡ o
none_named table key None e h = refl
none_named table key (Some n) e h = absurd (h n (named_spelled table key n e))

pub named_missing : (table key : List ℕ) → ((n : LibName) → spelling n ≢ Some (table, key)) → None ≡ named table key
named_missing table key h = none_named table key (named table key) refl h
