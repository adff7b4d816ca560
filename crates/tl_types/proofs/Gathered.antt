-- What a loop over types has gathered of their members.
use Rattle.std.proofs.Common.{◌≡◌, ℕ, ◌+◌, ◌<◌, ◌≤◌, Bool, ◌||◌, not, List, [], ◌∷◌, ◌++◌, refl, sym, ap, ◌∙◌, map, length, get_or, take, append_assoc}
use Rattle.std.specs.Prelude.{flat_map, fold, filter}
use Rattle.std.specs.List.{list_any}
use Rattle.std.proofs.lemmas.List.{take_more, take_all}
use Rattle.std.proofs.lemmas.List.Folds.{list_any-append}
use Rattle.std.proofs.lemmas.List.Sums.{fold-append}
use Rattle.std.proofs.lemmas.List.Elements.{filter-append}
use Rattle.tl_types.specs.declared.types.Ty.{Ty, out-Ty}
use Rattle.tl_types.specs.declared.types.Ty.TheVariants as ty
use Rattle.tl_types.specs.Types.{members}
use Rattle.tl_types.specs.Unions.{general_member, is_covered_form}
use Rattle.tl_types.specs.Adding.{add, add_all}
use Rattle.tl_types.proofs.Members.{members_union}

pub flat_append : {X A : Type 0} (f : X → List A) (xs ys : List X) → flat_map f (xs ++ ys) ≡ flat_map f xs ++ flat_map f ys
flat_append f [] ys = refl
flat_append f (x ∷ xs) ys = ap (λ r. f x ++ r) (flat_append f xs ys) ∙ sym (append_assoc (f x) (flat_map f xs) (flat_map f ys))

pub append_nil : {X : Type 0} (xs : List X) → xs ++ [] ≡ xs
append_nil [] = refl
append_nil (x ∷ xs) = ap (λ r. x ∷ r) (append_nil xs)

flat_more : {X A : Type 0} (f : X → List A) (xs : List X) (i : ℕ) (d : X) → i < length xs → flat_map f (take (i + 1) xs) ≡ flat_map f (take i xs) ++ f (get_or xs i d)
flat_more f xs i d in_list = ap (flat_map f) (take_more xs i d in_list) ∙ (flat_append f (take i xs) (get_or xs i d ∷ []) ∙ ap (λ r. flat_map f (take i xs) ++ r) (append_nil (f (get_or xs i d))))

pub seen_more : (p : Ty → Bool) (ms : List Ty) (i : ℕ) (d : Ty) → i < length ms → list_any p (flat_map members (take (i + 1) ms)) ≡ (list_any p (flat_map members (take i ms)) || list_any p (members (get_or ms i d)))
seen_more p ms i d in_list = ap (list_any p) (flat_more members ms i d in_list) ∙ list_any-append p (flat_map members (take i ms)) (members (get_or ms i d))

add_append : (with_int with_str : Bool) (kept xs ys : List Ty) → add_all with_int with_str kept (xs ++ ys) ≡ add_all with_int with_str (add_all with_int with_str kept xs) ys
add_append with_int with_str kept xs ys =
    let test = λ (t : Ty). not (is_covered_form with_int with_str (out-Ty t)) in
    ap (fold add kept) (filter-append test xs ys) ∙ fold-append add kept (filter test xs) (filter test ys)

pub add_more : (with_int with_str : Bool) (kept ms : List Ty) (i : ℕ) (d : Ty) → i < length ms → add_all with_int with_str kept (flat_map members (take (i + 1) ms)) ≡ add_all with_int with_str (add_all with_int with_str kept (flat_map members (take i ms))) (members (get_or ms i d))
add_more with_int with_str kept ms i d in_list = ap (add_all with_int with_str kept) (flat_more members ms i d in_list) ∙ add_append with_int with_str kept (flat_map members (take i ms)) (members (get_or ms i d))

map_append : {X A : Type 0} (f : X → A) (xs ys : List X) → map f (xs ++ ys) ≡ map f xs ++ map f ys
map_append f [] ys = refl
map_append f (x ∷ xs) ys = ap (λ r. f x ∷ r) (map_append f xs ys)

pub general_more : (forms ms : List Ty) (i : ℕ) (d : Ty) → i < length ms → forms ++ map general_member (flat_map members (take (i + 1) ms)) ≡ (forms ++ map general_member (flat_map members (take i ms))) ++ map general_member (members (get_or ms i d))
general_more forms ms i d in_list = ap (λ r. forms ++ map general_member r) (flat_more members ms i d in_list) ∙ (ap (λ r. forms ++ r) (map_append general_member (flat_map members (take i ms)) (members (get_or ms i d))) ∙ sym (append_assoc forms (map general_member (flat_map members (take i ms))) (map general_member (members (get_or ms i d)))))

-- at the loop's end

pub flat_all : (t : Ty) (ms : List Ty) (i : ℕ) → t ≡ ty.Union ms → length ms ≤ i → flat_map members (take i ms) ≡ members t
flat_all t ms i is past = ap (flat_map members) (take_all i ms past) ∙ sym (members_union t ms is)
