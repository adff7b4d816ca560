-- A type is below its general form.
use Rattle.std.proofs.Common.{◌≡◌, ℕ, zero, suc, Bool, true, false, ◌&&◌, ◌||◌, List, [], ◌∷◌, refl, sym, ap, ◌∙◌, subst, map, arith}
use Rattle.std.specs.Prelude.{Contains}
use Rattle.std.specs.List.{list_any}
use Rattle.tl_types.specs.declared.types.Ty.{Ty, out-Ty, roll-Ty}
use Rattle.tl_types.specs.declared.types.Ty.TheVariants as ty
use Rattle.tl_types.specs.declared.types.Ty.TheOpen.{Ty-F, True, False, Int, IntLit, Str, StrLit}
use Rattle.tl_types.specs.Types.{Bodies, members, unfolded, unfold_form}
use Rattle.tl_types.specs.Unions.{is_any, general_form_of, general_member, general_form, boolean}
use Rattle.tl_types.specs.Below.{Test, form_below, member_below, step, below}
use Rattle.tl_types.proofs.Bools.{or_left, or_right, any_flat}
use Rattle.tl_types.proofs.Lists.{all_contains, all_from_contains, any_from_contains, contains_head, contains_tail, contains_cases}
use Rattle.tl_types.proofs.Members.{members_union, members_single, is_single, is_single_form, out_of}
use Rattle.tl_types.proofs.Layers.{form_of}
use Rattle.tl_types.proofs.Reflexive.{form_self, below_self}
use Rattle.tl_types.proofs.UnionLaws.{single_members, to_members}

mapped : (f : Ty → Ty) (ts : List Ty) (t : Ty) → Contains ts t → Contains (map f ts) (f t)
mapped f [] t here = absurd (omega (arith, here.1))
mapped f (u ∷ us) t here = contains_cases (Contains (f u ∷ map f us) (f t)) u t us (λ same. subst (λ v. Contains (f v ∷ map f us) (f t)) (sym same) (contains_head (f t) (map f us))) (λ rest. contains_tail (f u) (f t) (map f us) (mapped f us t rest)) here.0 here.1 here.2

module _ (bodies : Bodies) (R : Test) (self : (t : Ty) → R t t ≡ true) where
  -- each is below a member of its general form
  into_alone : (a b : Ty) (x y : Ty-F Ty) → out-Ty a ≡ x → roll-Ty y ≡ b → is_single_form y ≡ true → form_below R (unfold_form bodies x) (unfold_form bodies y) ≡ true → list_any (member_below bodies R a) (members b) ≡ true
  into_alone a b x y xs ys single e =
      let one : is_single b ≡ true = ap is_single_form (out_of b y ys) ∙ single in
      ap (list_any (member_below bodies R a)) (single_members b one)
      ∙ or_left (member_below bodies R a b) false (ap (λ z. form_below R (unfold_form bodies z) (unfolded bodies b)) xs ∙ (ap (form_below R (unfold_form bodies x)) (form_of bodies b y ys) ∙ e))

  into_boolean : (a : Ty) (x y : Ty-F Ty) (b : Ty) → out-Ty a ≡ x → roll-Ty y ≡ b → is_single_form y ≡ true → Contains (ty.True ∷ ty.False ∷ []) b → form_below R (unfold_form bodies x) (unfold_form bodies y) ≡ true → list_any (member_below bodies R a) (members boolean) ≡ true
  into_boolean a x y b xs ys single here e =
      ap (list_any (member_below bodies R a)) (members_union boolean (ty.True ∷ ty.False ∷ []) refl)
      ∙ (any_flat (member_below bodies R a) members (ty.True ∷ ty.False ∷ []) ∙ any_from_contains (λ m. list_any (member_below bodies R a) (members m)) (ty.True ∷ ty.False ∷ []) b here (into_alone a b x y xs ys single e))

  into_itself : (a : Ty) → is_single a ≡ true → list_any (member_below bodies R a) (members a) ≡ true
  into_itself a single = ap (list_any (member_below bodies R a)) (single_members a single) ∙ or_left (member_below bodies R a a) false (form_self R self bodies (out-Ty a) single)

  into_general : (a : Ty) (x : Ty-F Ty) → out-Ty a ≡ x → is_single a ≡ true → list_any (member_below bodies R a) (members (general_form_of a x)) ≡ true
  into_general a True xs single = into_boolean a True True ty.True xs ty.rolls-True refl (contains_head ty.True (ty.False ∷ [])) refl
  into_general a False xs single = into_boolean a False False ty.False xs ty.rolls-False refl (contains_tail ty.True ty.False (ty.False ∷ []) (contains_head ty.False [])) refl
  into_general a (IntLit n) xs single = into_alone a ty.Int (IntLit n) Int xs ty.rolls-Int refl refl
  into_general a (StrLit s) xs single = into_alone a ty.Str (StrLit s) Str xs ty.rolls-Str refl refl
  into_general a _ xs single = into_itself a single

  step_general : (loose : Bool) (t : Ty) → step loose bodies R t (general_form t) ≡ true
  step_general loose t =
      let forms = map general_member (members t) in
      all_from_contains (λ a. (loose && is_any a) || list_any (member_below bodies R a) (members (general_form t))) (members t) (λ a here.
      or_right (loose && is_any a) (list_any (member_below bodies R a) (members (general_form t)))
      (to_members loose bodies R a forms
      ∙ (any_flat (member_below bodies R a) members forms
      ∙ any_from_contains (λ g. list_any (member_below bodies R a) (members g)) forms (general_member a) (mapped general_member (members t) a here)
      (into_general a (out-Ty a) refl (all_contains is_single (members t) a (members_single t) here)))))

pub below_general : (loose : Bool) (bodies : Bodies) (n : ℕ) (t : Ty) → below loose bodies n t (general_form t) ≡ true
below_general loose bodies zero t = refl
below_general loose bodies (suc n) t = step_general bodies (below loose bodies n) (below_self loose bodies n) loose t
