-- To add types one after the other, each where it isn't there yet, keeps each once at the first one's place.
use Rattle.std.proofs.Common.{◌≡◌, Bool, true, false, ◌||◌, ◌&&◌, not, cond, List, [], ◌∷◌, ◌++◌, refl, sym, ap, ◌∙◌, subst, append_assoc}
use Rattle.std.specs.Prelude.{flat_map, fold, filter}
use Rattle.std.specs.List.{list_any}
use Rattle.std.proofs.lemmas.List.Folds.{list_any-append}
use Rattle.tl_types.specs.declared.types.Ty.{Ty}
use Rattle.tl_types.specs.declared.types.Ty.TheVariants as ty
use Rattle.tl_types.specs.Types.{members}
use Rattle.tl_types.specs.Same.{same_type}
use Rattle.tl_types.specs.Unions.{is_any, is_value, is_int, is_str, is_covered, distinct, union_from, union_form}
use Rattle.tl_types.specs.Adding.{add, add_all}
use Rattle.tl_types.proofs.Alike.{same_right, same_self}
use Rattle.tl_types.proofs.Gathered.{append_nil}

same_when : (a b : Bool) → (a ≡ true → b ≡ true) → (b ≡ true → a ≡ true) → a ≡ b
same_when true true f g = refl
same_when false false f g = refl
same_when true false f g = sym (f refl)
same_when false true f g = g refl

pub same_turned : (s t : Ty) → same_type s t ≡ same_type t s
same_turned s t = same_when (same_type s t) (same_type t s) (λ e. subst (λ u. same_type u s ≡ true) (same_right s t e) (same_self s)) (λ e. subst (λ u. same_type u t ≡ true) (same_right t s e) (same_self t))

filter_one : {X : Type 0} (p q r : X → Bool) → ((x : X) → r x ≡ (q x && p x)) → (x : X) (xs : List X) → filter r xs ≡ filter p (filter q xs) → (b : Bool) → q x ≡ b → filter r (x ∷ xs) ≡ filter p (filter q (x ∷ xs))
filter_one p q r e x xs rest true is =
    let here : r x ≡ p x = e x ∙ ap (λ b. b && p x) is in
    ap (λ b. cond b (x ∷ filter r xs) (filter r xs)) here ∙ (ap (λ ys. cond (p x) (x ∷ ys) ys) rest ∙ sym (ap (λ b. filter p (cond b (x ∷ filter q xs) (filter q xs))) is))
filter_one p q r e x xs rest false is =
    let here : r x ≡ false = e x ∙ ap (λ b. b && p x) is in
    ap (λ b. cond b (x ∷ filter r xs) (filter r xs)) here ∙ (rest ∙ sym (ap (λ b. filter p (cond b (x ∷ filter q xs) (filter q xs))) is))

-- two tests one after the other, and their conjunction
filter_both : {X : Type 0} (p q r : X → Bool) → ((x : X) → r x ≡ (q x && p x)) → (xs : List X) → filter r xs ≡ filter p (filter q xs)
filter_both p q r e [] = refl
filter_both p q r e (x ∷ xs) = filter_one p q r e x xs (filter_both p q r e xs) (q x) refl

abbrev is_new : List Ty → Ty → Bool
is_new kept u = not (list_any (same_type u) kept)

new_cases : (kept : List Ty) (t u : Ty) → list_any (same_type t) kept ≡ true → (b : Bool) → same_type t u ≡ b → is_new kept u ≡ (not b && is_new kept u)
new_cases kept t u old false e = refl
new_cases kept t u old true e = ap not (subst (λ v. list_any (same_type v) kept ≡ true) (same_right t u e) old)

-- a type that stands among those kept is the only one that its test leaves out beside them
new_old : (kept : List Ty) (t u : Ty) → list_any (same_type t) kept ≡ true → is_new kept u ≡ (not (same_type t u) && is_new kept u)
new_old kept t u old = new_cases kept t u old (same_type t u) refl

not_or : (a b : Bool) → not (a || (b || false)) ≡ (not b && not a)
not_or true true = refl
not_or true false = refl
not_or false true = refl
not_or false false = refl

new_pushed : (kept : List Ty) (t u : Ty) → is_new (kept ++ t ∷ []) u ≡ (not (same_type t u) && is_new kept u)
new_pushed kept t u = ap not (list_any-append (same_type u) kept (t ∷ [])) ∙ (not_or (list_any (same_type u) kept) (same_type u t) ∙ ap (λ b. not b && is_new kept u) (same_turned u t))

added_one : (kept : List Ty) (t : Ty) (ts : List Ty) → ((k : List Ty) → fold add k ts ≡ k ++ filter (is_new k) (distinct ts)) → (b : Bool) → list_any (same_type t) kept ≡ b → fold add (add kept t) ts ≡ kept ++ filter (is_new kept) (t ∷ filter (λ u. not (same_type t u)) (distinct ts))
added_one kept t ts rest true is =
    let others = filter (is_new kept) (filter (λ u. not (same_type t u)) (distinct ts)) in
    ap (λ b. fold add (cond b kept (kept ++ t ∷ [])) ts) is
    ∙ (rest kept
    ∙ (ap (λ r. kept ++ r) (filter_both (is_new kept) (λ u. not (same_type t u)) (is_new kept) (λ u. new_old kept t u is) (distinct ts))
    ∙ sym (ap (λ b. kept ++ cond (not b) (t ∷ others) others) is)))
added_one kept t ts rest false is =
    let others = filter (is_new kept) (filter (λ u. not (same_type t u)) (distinct ts)) in
    ap (λ b. fold add (cond b kept (kept ++ t ∷ [])) ts) is
    ∙ (rest (kept ++ t ∷ [])
    ∙ (append_assoc kept (t ∷ []) (filter (is_new (kept ++ t ∷ [])) (distinct ts))
    ∙ (ap (λ r. kept ++ (t ∷ r)) (filter_both (is_new kept) (λ u. not (same_type t u)) (is_new (kept ++ t ∷ [])) (new_pushed kept t) (distinct ts))
    ∙ sym (ap (λ b. kept ++ cond (not b) (t ∷ others) others) is))))

added : (ts kept : List Ty) → fold add kept ts ≡ kept ++ filter (is_new kept) (distinct ts)
added [] kept = sym (append_nil kept)
added (t ∷ ts) kept = added_one kept t ts (added ts) (list_any (same_type t) kept) refl

filter_true : {X : Type 0} (xs : List X) → filter (λ x. true) xs ≡ xs
filter_true [] = refl
filter_true (x ∷ xs) = ap (λ r. x ∷ r) (filter_true xs)

added_all : (ts : List Ty) → fold add [] ts ≡ distinct ts
added_all ts = added ts [] ∙ filter_true (distinct ts)

-- the types gathered are the members of the union
pub union_is : (types kept : List Ty) (with_int with_str : Bool) → list_any is_any (flat_map members types) ≡ false → list_any is_value (flat_map members types) ≡ false
    → with_int ≡ list_any is_int (flat_map members types) → with_str ≡ list_any is_str (flat_map members types)
    → kept ≡ add_all with_int with_str [] (flat_map members types) → union_from kept ≡ union_form types
union_is types kept with_int with_str no_any no_value ints strs is =
    let ts = flat_map members types in
    let left = filter (λ t. not (is_covered ts t)) ts in
    let gathered : kept ≡ distinct left = is ∙ ((λ i. add_all (ints i) (strs i) [] ts) ∙ added_all left) in
    ap union_from gathered
    ∙ (sym (ap (λ b. cond b ty.Value (union_from (distinct left))) no_value)
    ∙ sym (ap (λ b. cond b ty.Any (cond (list_any is_value ts) ty.Value (union_from (distinct left)))) no_any))
