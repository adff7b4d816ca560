-- The locals in scope, by the map of the latest and by the list.
use Rattle.std.proofs.Common.{◌≡◌, ℕ, Bool, true, false, cond, List, [], ◌∷◌, ◌++◌, map, reverse, Option, Some, None, option_map, refl, ap, sym, ◌∙◌, drop, length, length-drop, ◌-◌, ◌+◌, ◌<◌, arith}
use Rattle.std.specs.Prelude.{find, option_and_then, Result, Ok, Err, OnOk, OnErr}
use Rattle.std.specs.Str.{bytes_eq}
use Rattle.std.specs.Borrow.{Bor}
use Rattle.std.specs.Cmp.Lexicographic.{same_text}
use Rattle.std.proofs.lemmas.Cmp.{nat_list_eq_equiv}
use Rattle.std.specs.HashMap.{HashMap, get, get_by, Updates}
use Rattle.std.proofs.lemmas.Map.Text.{hash_map_updates_str}
use Rattle.std.proofs.lemmas.List.{reverse-append, drop-drop}
use Rattle.lua_scope.specs.declared.visible.Local.{Local}
use Rattle.lua_scope.specs.declared.visible.Shown.{Shown}
use Rattle.lua_scope.specs.Shown.{local_of, binding_of, found, Hides}
use Rattle.lua_tree.specs.Scopes.Places as places
use Rattle.lua_tree.specs.Scopes.Binding.{latest}

first_seen : (b : Bool) (s : Shown) (o : Option Shown) (r : Option places.Binding) → option_map (λ x. x.local) r ≡ option_map local_of (option_map (λ x. x.binding.local) o)
    → option_map (λ x. x.local) (cond b (Some (binding_of s.binding)) r) ≡ option_map local_of (option_map (λ x. x.binding.local) (cond b (Some s) o))
first_seen true s o r h = refl
first_seen false s o r h = h

pub latest_seen : (name : List ℕ) (xs : List Shown) → latest name (map (λ s. binding_of s.binding) xs) ≡ option_map local_of (found name xs)
latest_seen name [] = refl
latest_seen name (s ∷ xs) = first_seen (bytes_eq s.binding.name.now name) s (find (λ x. bytes_eq x.binding.name.now name) xs) (find (λ x. bytes_eq x.name name) (map (λ x. binding_of x.binding) xs)) (latest_seen name xs)

after : (b : Bool) (l : Option Local) (s : Shown) (u : Option (Option Local)) (o : Option Shown) → l ≡ Some s.binding.local → option_and_then (λ x. x) u ≡ option_map (λ x. x.binding.local) o
    → option_and_then (λ x. x) (cond b (Some l) u) ≡ option_map (λ x. x.binding.local) (cond b (Some s) o)
after true l s u o e h = e
after false l s u o e h = h

-- the look-up by the map agrees with the list
abbrev pub Agrees : (List ℕ → Option (Option Local)) → List Shown → Type 0
Agrees f xs = (name : List ℕ) → option_and_then (λ l. l) (f name) ≡ found name xs

pub entered : (f g : List ℕ → Option (Option Local)) (xs : List Shown) (s : Shown) → Agrees f (reverse xs) → ((name : List ℕ) → g name ≡ cond (bytes_eq s.binding.name.now name) (Some (Some s.binding.local)) (f name)) → Agrees g (reverse (xs ++ s ∷ []))
entered f g xs s h e name =
    ap (option_and_then (λ l. l)) (e name)
    ∙ after (bytes_eq s.binding.name.now name) (Some s.binding.local) s (f name) (find (λ x. bytes_eq x.binding.name.now name) (reverse xs)) refl (h name)
    ∙ ap (found name) (sym (reverse-append xs (s ∷ [])))

pub hides_more : (xs : List Shown) (s : Shown) → Hides (reverse xs) → s.shadowed ≡ found s.binding.name.now (reverse xs) → Hides (reverse (xs ++ s ∷ []))
hides_more xs s h e = rw reverse-append (e, h)

pub hides_fewer : (xs : List Shown) (s : Shown) → Hides (reverse (xs ++ s ∷ [])) → Hides (s ∷ reverse xs)
hides_fewer xs s h = rw reverse-append at h

before : (b : Bool) (l : Option Local) (s : Shown) (u : Option (Option Local)) (o : Option Shown) → (b ≡ true → l ≡ option_map (λ x. x.binding.local) o)
    → option_and_then (λ x. x) u ≡ option_map (λ x. x.binding.local) (cond b (Some s) o) → option_and_then (λ x. x) (cond b (Some l) u) ≡ option_map (λ x. x.binding.local) o
before true l s u o e h = e refl
before false l s u o e h = h

pub left : (f g : List ℕ → Option (Option Local)) (xs : List Shown) (s : Shown) → Hides (reverse (xs ++ s ∷ [])) → Agrees f (reverse (xs ++ s ∷ [])) → ((name : List ℕ) → g name ≡ cond (bytes_eq s.binding.name.now name) (Some s.shadowed) (f name)) → Agrees g (reverse xs)
left f g xs s hides h e name =
    let hidden = hides_fewer xs s hides in
    ap (option_and_then (λ l. l)) (e name)
    ∙ before (bytes_eq s.binding.name.now name) s.shadowed s (f name) (find (λ x. bytes_eq x.binding.name.now name) (reverse xs))
    (λ same. hidden.0 ∙ ap (λ n. found n (reverse xs)) (same_text s.binding.name.now name (sym same)))
    (h name ∙ ap (found name) (reverse-append xs (s ∷ [])))

there : (xs : List Shown) (s : Shown) (b : Bool) → b ≡ true → option_map (λ x. x.binding.local) (cond b (Some s) (find (λ x. bytes_eq x.binding.name.now s.binding.name.now) xs)) ≡ Some s.binding.local
there xs s true e = refl
there xs s false e = cc

-- the map has the name of each local in scope
pub is_there : (f : List ℕ → Option (Option Local)) (xs : List Shown) (s : Shown) → Agrees f (reverse (xs ++ s ∷ [])) → f s.binding.name.now ≡ None → ⊥
is_there f xs s h none =
    let has : None ≡ found s.binding.name.now (reverse (xs ++ s ∷ [])) = sym (ap (option_and_then (λ l. l)) none) ∙ h s.binding.name.now in
    let one : found s.binding.name.now (reverse (xs ++ s ∷ [])) ≡ Some s.binding.local =
    ap (found s.binding.name.now) (reverse-append xs (s ∷ [])) ∙ there (reverse xs) s (bytes_eq s.binding.name.now s.binding.name.now) (nat_list_eq_equiv.refl s.binding.name.now) in
    cc

module _ {S : Type 0} (m n : HashMap (Bor (List ℕ)) (Option Local) S) where
  -- the map before and after an insertion that can't fail, as the latest local of the list goes
  pub left_in_map : {A E : Type 0} (xs : List Shown) (s : Shown) (r : Result A E)
      → OnOk r (Updates (λ x y. bytes_eq x.now y.now) m n s.binding.name (Some s.shadowed)) → OnErr r (get (λ x y. bytes_eq x.now y.now) m s.binding.name ≡ None)
      → Hides (reverse (xs ++ s ∷ [])) → Agrees (λ name. get_by (λ k. bytes_eq name k.now) m) (reverse (xs ++ s ∷ [])) → Agrees (λ name. get_by (λ k. bytes_eq name k.now) n) (reverse xs)
  left_in_map xs s (Ok a) ok err hides h = left (λ name. get_by (λ k. bytes_eq name k.now) m) (λ name. get_by (λ k. bytes_eq name k.now) n) xs s hides h (hash_map_updates_str s.binding.name.now m n (Some s.shadowed) ok)
  left_in_map xs s (Err e) ok err hides h = absurd (is_there (λ name. get_by (λ k. bytes_eq name k.now) m) xs s h err)

  pub entered_in_map : (xs : List Shown) (s : Shown)
      → Updates (λ x y. bytes_eq x.now y.now) m n s.binding.name (Some (Some s.binding.local))
      → Agrees (λ name. get_by (λ k. bytes_eq name k.now) m) (reverse xs) → Agrees (λ name. get_by (λ k. bytes_eq name k.now) n) (reverse (xs ++ s ∷ []))
  entered_in_map xs s ok h = entered (λ name. get_by (λ k. bytes_eq name k.now) m) (λ name. get_by (λ k. bytes_eq name k.now) n) xs s h (hash_map_updates_str s.binding.name.now m n (Some (Some s.binding.local)) ok)

pub one_fewer : {A : Type 0} (xs ys : List A) (count : ℕ) → ys ≡ drop 1 xs → count < length xs → drop (length ys - count) ys ≡ drop (length xs - count) xs
one_fewer xs ys count e h =
    let shorter : length ys ≡ length xs - 1 = ap length e ∙ length-drop 1 xs in
    let n : 1 + (length ys - count) ≡ length xs - count = omega arith in
    ap (drop (length ys - count)) e ∙ drop-drop (length ys - count) 1 xs ∙ ap (λ k. drop k xs) n
