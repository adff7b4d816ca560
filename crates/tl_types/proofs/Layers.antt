-- One step of the orders, by the forms of the two types.
use Rattle.std.proofs.Common.{◌≡◌, Bool, true, false, ◌&&◌, ◌||◌, List, refl, sym, ap, ◌∙◌}
use Rattle.std.specs.List.{list_any, list_all}
use Rattle.tl_types.specs.declared.types.Ty.{Ty, roll-Ty}
use Rattle.tl_types.specs.declared.types.Ty.TheVariants as ty
use Rattle.tl_types.specs.declared.types.Ty.TheOpen.{Ty-F}
use Rattle.tl_types.specs.Types.{Bodies, members, unfolded, unfold_form}
use Rattle.tl_types.specs.Unions.{is_any, is_any_form}
use Rattle.tl_types.specs.Below.{Test, form_below, member_below, step}
use Rattle.tl_types.specs.Cases.{IsNoUnion}
use Rattle.tl_types.proofs.Bools.{all_flat, any_flat}
use Rattle.tl_types.proofs.Lists.{any_same}
use Rattle.tl_types.proofs.Members.{members_union, members_one, out_of}

-- the form of a type, unfolded
pub form_of : (bodies : Bodies) (t : Ty) (x : Ty-F Ty) → roll-Ty x ≡ t → unfolded bodies t ≡ unfold_form bodies x
form_of bodies t x is = ap (unfold_form bodies) (out_of t x is)

pub any_of : (t : Ty) (x : Ty-F Ty) → roll-Ty x ≡ t → is_any t ≡ is_any_form x
any_of t x is = ap is_any_form (out_of t x is)

and_true : (b : Bool) → (b && true) ≡ b
and_true true = refl
and_true false = refl

or_false : (b : Bool) → (b || false) ≡ b
or_false true = refl
or_false false = refl

module _ (loose : Bool) (bodies : Bodies) (R : Test) where
  pub step_from_union : (s t : Ty) (ms : List Ty) → s ≡ ty.Union ms → step loose bodies R s t ≡ list_all (λ m. step loose bodies R m t) ms
  step_from_union s t ms is =
      let test = λ (a : Ty). (loose && is_any a) || list_any (member_below bodies R a) (members t) in
      ap (list_all test) (members_union s ms is) ∙ all_flat test members ms

  pub step_single : (s t : Ty) → IsNoUnion s → step loose bodies R s t ≡ ((loose && is_any s) || list_any (member_below bodies R s) (members t))
  step_single s t single =
      let test = λ (a : Ty). (loose && is_any a) || list_any (member_below bodies R a) (members t) in
      ap (list_all test) (members_one s single) ∙ and_true (test s)

  pub step_to_union : (s t : Ty) (ms : List Ty) → IsNoUnion s → (loose && is_any s) ≡ false → t ≡ ty.Union ms → step loose bodies R s t ≡ list_any (λ m. step loose bodies R s m) ms
  step_to_union s t ms single strict is =
      let each : (m : Ty) → list_any (member_below bodies R s) (members m) ≡ step loose bodies R s m = λ m. sym (step_single s m single ∙ ap (λ b. b || list_any (member_below bodies R s) (members m)) strict) in
      step_single s t single
      ∙ (ap (λ b. b || list_any (member_below bodies R s) (members t)) strict
      ∙ (ap (list_any (member_below bodies R s)) (members_union t ms is)
      ∙ (any_flat (member_below bodies R s) members ms ∙ any_same (λ m. list_any (member_below bodies R s) (members m)) (λ m. step loose bodies R s m) each ms)))

  pub step_singles : (s t : Ty) → IsNoUnion s → IsNoUnion t → step loose bodies R s t ≡ ((loose && is_any s) || member_below bodies R s t)
  step_singles s t single_s single_t =
      step_single s t single_s ∙ (ap (λ ms. (loose && is_any s) || list_any (member_below bodies R s) ms) (members_one t single_t) ∙ ap (λ b. (loose && is_any s) || b) (or_false (member_below bodies R s t)))

  pub member_forms : (s t : Ty) (x y : Ty-F Ty) → unfolded bodies s ≡ x → unfolded bodies t ≡ y → member_below bodies R s t ≡ form_below R x y
  member_forms s t x y xs ys = ap (λ z. form_below R z (unfolded bodies t)) xs ∙ ap (form_below R x) ys
