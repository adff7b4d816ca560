-- What the members of a type are, by its form.
use Rattle.std.proofs.lemmas.Bool.{and_from}
use Rattle.std.proofs.Common.{map, ◌≡◌, Bool, true, false, ◌&&◌, List, [], ◌∷◌, ◌++◌, refl, sym, ap, ◌∙◌, subst}
use Rattle.std.specs.Prelude.{flat_map}
use Rattle.std.specs.List.{list_all}
use Rattle.std.proofs.lemmas.List.Folds.{list_all-append}
use Rattle.tl_types.specs.declared.types.Ty.{Ty, out-Ty, roll-Ty, map-Ty, ind-Ty}
use Rattle.tl_types.specs.declared.types.Ty.TheOpen.{Ty-F, Nil, True, False, Int, IntLit, Str, StrLit, Value, Any, Union, Func, Rec, Map, Iface}
use Rattle.tl_types.specs.declared.types.Ty.TheBlock.{hidden-the_row-Ty-0}
use Rattle.tl_types.specs.declared.types.Ty.TheVariants as ty
use Rattle.tl_types.specs.Types.{members, row_members}
use Rattle.tl_types.specs.Cases.{IsNoUnion}
use Rattle.tl_types.proofs.Alike.{roll_out, out_roll}

pub out_of : (t : Ty) (x : Ty-F Ty) → roll-Ty x ≡ t → out-Ty t ≡ x
out_of t x e = ap out-Ty (sym e) ∙ out_roll x

row_is : (ms : List Ty) → row_members (hidden-the_row-Ty-0 ms) ≡ flat_map members ms
unfolding hidden-the_row-Ty-0 denote.Hole.Carrier.hidden
row_is [] = refl
row_is (m ∷ ms) = ap (λ r. members m ++ r) (row_is ms)

-- the members, by the form
abbrev pub form_members : Ty → Ty-F Ty → List Ty
form_members t (Union ms) = flat_map members ms
form_members t x = t ∷ []

members_roll : (x : Ty-F Ty) → members (roll-Ty x) ≡ form_members (roll-Ty x) x
unfolding roll-Ty denote.Hole.Carrier.roll denote.Hole.Carrier.hidden
members_roll (Union ms) = row_is ms
members_roll Nil = refl
members_roll True = refl
members_roll False = refl
members_roll Int = refl
members_roll (IntLit n) = refl
members_roll Str = refl
members_roll (StrLit s) = refl
members_roll Value = refl
members_roll Any = refl
members_roll (Func f) = refl
members_roll (Rec fs) = refl
members_roll (Map k v) = refl
members_roll (Iface n) = refl

pub members_is : (t : Ty) → members t ≡ form_members t (out-Ty t)
members_is t = subst (λ u. members u ≡ form_members u (out-Ty t)) (roll_out t) (members_roll (out-Ty t))

pub members_union : (t : Ty) (ms : List Ty) → t ≡ ty.Union ms → members t ≡ flat_map members ms
members_union t ms is = members_is t ∙ ap (form_members t) (out_of t (Union ms) (ty.rolls-Union ms ∙ sym is))

-- a type that is no union is its own one member

one_member : (t : Ty) (x : Ty-F Ty) → out-Ty t ≡ x → IsNoUnion t → form_members t x ≡ t ∷ []
one_member t (Union ms) e no_union = absurd (no_union ms (sym (roll_out t) ∙ (ap roll-Ty e ∙ ty.rolls-Union ms)))
one_member t _ e no_union = refl

pub members_one : (t : Ty) → IsNoUnion t → members t ≡ t ∷ []
members_one t no_union = members_is t ∙ one_member t (out-Ty t) refl no_union

-- no member is a union

abbrev pub is_single_form : Ty-F Ty → Bool
is_single_form (Union ms) = false
is_single_form x = true

abbrev pub is_single : Ty → Bool
is_single t = is_single_form (out-Ty t)

alone : (x : Ty-F Ty) → is_single_form x ≡ true → (is_single (roll-Ty x) && true) ≡ true
alone x e = ap (λ y. is_single_form y && true) (out_roll x) ∙ ap (λ b. b && true) e

module _ {S : Type 0} (f : S → Ty) (single : (s : S) → list_all is_single (members (f s)) ≡ true) where
  union_single : (ss : List S) → list_all is_single (flat_map members (map f ss)) ≡ true
  union_single [] = refl
  union_single (s ∷ ss) = list_all-append is_single (members (f s)) (flat_map members (map f ss)) ∙ and_from _ _ (single s) (union_single ss)

  form_single : (y : Ty-F S) → list_all is_single (form_members (roll-Ty (map-Ty S Ty f y)) (map-Ty S Ty f y)) ≡ true
  form_single (Union ss) = union_single ss
  form_single Nil = alone Nil refl
  form_single True = alone True refl
  form_single False = alone False refl
  form_single Int = alone Int refl
  form_single (IntLit n) = alone (IntLit n) refl
  form_single Str = alone Str refl
  form_single (StrLit s) = alone (StrLit s) refl
  form_single Value = alone Value refl
  form_single Any = alone Any refl
  form_single (Func g) = alone (map-Ty S Ty f (Func g)) refl
  form_single (Rec gs) = alone (map-Ty S Ty f (Rec gs)) refl
  form_single (Map k v) = alone (map-Ty S Ty f (Map k v)) refl
  form_single (Iface n) = alone (Iface n) refl

pub members_single : (t : Ty) → list_all is_single (members t) ≡ true
members_single t = ind-Ty (λ t. list_all is_single (members t) ≡ true) (λ x y is.
    ap (list_all is_single) (members_roll x) ∙ subst (λ z. list_all is_single (form_members (roll-Ty z) z) ≡ true) is (form_single (λ s. s.0) (λ s. s.1) y)) t
