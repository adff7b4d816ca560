-- Unions on either side of a comparison, and the union of a type and `nil`.
use Rattle.std.proofs.Common.{◌≡◌, Bool, true, false, ◌&&◌, ◌||◌, List, [], ◌∷◌, ◌++◌, refl, sym, ap, ◌∙◌}
use Rattle.std.specs.Prelude.{flat_map}
use Rattle.std.specs.List.{list_any, list_all}
use Rattle.std.proofs.lemmas.Bool.{and_parts, and_from}
use Rattle.std.proofs.lemmas.List.Folds.{list_any-append}
use Rattle.tl_types.specs.declared.types.Ty.{Ty}
use Rattle.tl_types.specs.declared.types.Ty.TheVariants as ty
use Rattle.tl_types.specs.declared.types.Ty.TheOpen.{Nil, Any}
use Rattle.tl_types.specs.Types.{Bodies, members}
use Rattle.tl_types.specs.Unions.{is_any, or_nil}
use Rattle.tl_types.specs.Below.{Test, member_below, step}
use Rattle.tl_types.specs.Cases.{IsNoUnion}
use Rattle.tl_types.proofs.Bools.{or_left, any_flat}
use Rattle.tl_types.proofs.Members.{members_union, members_one, is_single_form, out_of}
use Rattle.tl_types.proofs.Layers.{any_of, step_single, step_from_union}
use Rattle.tl_types.proofs.UnionLaws.{single_no_union, single_members, from_union_law, to_members, union_any}

or_false : (b : Bool) → (b || false) ≡ b
or_false true = refl
or_false false = refl

and_true : (b : Bool) → (b && true) ≡ b
and_true true = refl
and_true false = refl

append_nil : {X : Type 0} (xs : List X) → xs ++ [] ≡ xs
append_nil [] = refl
append_nil (x ∷ xs) = ap (λ r. x ∷ r) (append_nil xs)

nil_members : members ty.Nil ≡ ty.Nil ∷ []
nil_members = single_members ty.Nil (ap is_single_form (out_of ty.Nil Nil ty.rolls-Nil))

nil_no_any : is_any ty.Nil ≡ false
nil_no_any = any_of ty.Nil Nil ty.rolls-Nil

both_flat : (t : Ty) → flat_map members (t ∷ ty.Nil ∷ []) ≡ members t ++ ty.Nil ∷ []
both_flat t = ap (λ r. members t ++ (r ++ [])) nil_members

any_with_nil : (t : Ty) → list_any is_any (flat_map members (t ∷ ty.Nil ∷ [])) ≡ list_any is_any (members t)
any_with_nil t = ap (list_any is_any) (both_flat t) ∙ (list_any-append is_any (members t) (ty.Nil ∷ []) ∙ (ap (λ b. list_any is_any (members t) || (b || false)) nil_no_any ∙ or_false (list_any is_any (members t))))

any_no_union : IsNoUnion ty.Any
any_no_union = single_no_union ty.Any (ap is_single_form (out_of ty.Any Any ty.rolls-Any))

pub any_members : (t : Ty) (ms : List Ty) → t ≡ ty.Union ms → list_any is_any (members t) ≡ list_any (λ m. list_any is_any (members m)) ms
any_members t ms is = ap (list_any is_any) (members_union t ms is) ∙ any_flat is_any members ms

module _ (loose : Bool) (bodies : Bodies) (R : Test) where
  pub left_nil : (a t : Ty) → (loose && list_any is_any (members a)) ≡ false → (step loose bodies R a t && step loose bodies R ty.Nil t) ≡ step loose bodies R (or_nil a) t
  left_nil a t strict =
      let law = from_union_law loose bodies R (a ∷ ty.Nil ∷ []) t (ap (λ b. loose && b) (any_with_nil a) ∙ strict) in
      ap (λ b. step loose bodies R a t && b) (sym (and_true (step loose bodies R ty.Nil t))) ∙ sym law

  any_step : (t : Ty) → loose ≡ true → step loose bodies R ty.Any t ≡ true
  any_step t is = step_single loose bodies R ty.Any t any_no_union ∙ or_left (loose && is_any ty.Any) (list_any (member_below bodies R ty.Any) (members t)) (and_from loose (is_any ty.Any) is (any_of ty.Any Any ty.rolls-Any))

  pub left_any : (a t : Ty) → (loose && list_any is_any (members a)) ≡ true → step loose bodies R (or_nil a) t ≡ true
  left_any a t e =
      let both = and_parts loose (list_any is_any (members a)) e in
      ap (λ u. step loose bodies R u t) (union_any (a ∷ ty.Nil ∷ []) (any_with_nil a ∙ both.1)) ∙ any_step t both.0

  pub right_nil : (s t : Ty) → (list_any (member_below bodies R s) (members t) || member_below bodies R s ty.Nil) ≡ list_any (member_below bodies R s) (members (or_nil t))
  right_nil s t =
      let test = member_below bodies R s in
      sym (to_members loose bodies R s (t ∷ ty.Nil ∷ []) ∙ (ap (list_any test) (both_flat t) ∙ (list_any-append test (members t) (ty.Nil ∷ []) ∙ ap (λ b. list_any test (members t) || b) (or_false (test ty.Nil)))))

  -- a type that is no union, on the left
  pub single_left : (s t : Ty) → IsNoUnion s → (loose && list_any is_any (members s)) ≡ false → list_any (member_below bodies R s) (members t) ≡ step loose bodies R s t
  single_left s t single strict =
      let none : (loose && is_any s) ≡ false = sym (ap (λ ms. loose && list_any is_any ms) (members_one s single) ∙ ap (λ b. loose && b) (or_false (is_any s))) ∙ strict in
      sym (step_single loose bodies R s t single ∙ ap (λ b. b || list_any (member_below bodies R s) (members t)) none)

  pub single_any : (s t : Ty) → IsNoUnion s → (loose && list_any is_any (members s)) ≡ true → step loose bodies R s t ≡ true
  single_any s t single e =
      let holds : (loose && is_any s) ≡ true = sym (ap (λ ms. loose && list_any is_any ms) (members_one s single) ∙ ap (λ b. loose && b) (or_false (is_any s))) ∙ e in
      step_single loose bodies R s t single ∙ or_left (loose && is_any s) (list_any (member_below bodies R s) (members t)) holds

  -- a type that is no union, on the right
  pub single_right : (s t : Ty) → IsNoUnion t → member_below bodies R s t ≡ list_any (member_below bodies R s) (members t)
  single_right s t single = sym (ap (list_any (member_below bodies R s)) (members_one t single) ∙ or_false (member_below bodies R s t))

  pub union_right : (s t : Ty) (ms : List Ty) → t ≡ ty.Union ms → list_any (λ m. list_any (member_below bodies R s) (members m)) ms ≡ list_any (member_below bodies R s) (members t)
  union_right s t ms is = sym (ap (list_any (member_below bodies R s)) (members_union t ms is) ∙ any_flat (member_below bodies R s) members ms)

  pub union_left : (s t : Ty) (ms : List Ty) → s ≡ ty.Union ms → list_all (λ m. step loose bodies R m t) ms ≡ step loose bodies R s t
  union_left s t ms is = sym (step_from_union loose bodies R s t ms is)
