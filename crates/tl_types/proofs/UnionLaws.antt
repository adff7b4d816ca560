-- The members of a union, and what is below a union and above it.
use Rattle.std.proofs.Common.{◌≡◌, ℕ, Bool, true, false, ◌&&◌, ◌||◌, not, cond, List, [], ◌∷◌, ◌++◌, refl, sym, ap, ◌∙◌, subst, ◌⊎◌, inl, inr}
use Rattle.std.specs.Prelude.{flat_map, filter, Contains}
use Rattle.std.specs.List.{list_any, list_all}
use Rattle.std.proofs.lemmas.Bool.{and_parts, and_from, false≢true}
use Rattle.tl_types.specs.declared.types.Ty.{Ty, out-Ty, roll-Ty}
use Rattle.tl_types.specs.declared.types.Ty.TheVariants as ty
use Rattle.tl_types.specs.declared.types.Ty.TheOpen.{Ty-F, Int, IntLit, Str, StrLit, Value, Any, Union}
use Rattle.tl_types.specs.Types.{Bodies, members, unfolded, unfold_form}
use Rattle.tl_types.specs.Same.{same_type}
use Rattle.tl_types.specs.Unions.{is_any, is_any_form, is_value, is_value_form, is_int, is_int_form, is_str, is_str_form, is_covered, is_covered_form, distinct, union_from, union_form}
use Rattle.tl_types.specs.Below.{Test, form_below, member_below, step}
use Rattle.tl_types.specs.Cases.{IsNoUnion}
use Rattle.tl_types.proofs.Alike.{same_right, roll_out}
use Rattle.tl_types.proofs.Bools.{or_left, or_right, or_implies, any_implies, all_flat, any_flat}
use Rattle.tl_types.proofs.Lists.{all_contains, all_from_contains, any_contains, any_from_contains, contains_head, contains_tail, contains_cases, any_same}
use Rattle.tl_types.proofs.Members.{members_union, members_one, members_single, is_single, is_single_form, out_of}
use Rattle.tl_types.proofs.Layers.{form_of, any_of, step_single}
use Rattle.tl_types.proofs.InCases.{any_form_back}

same_when : (a b : Bool) → (a ≡ true → b ≡ true) → (b ≡ true → a ≡ true) → a ≡ b
same_when true true f g = refl
same_when false false f g = refl
same_when true false f g = sym (f refl)
same_when false true f g = g refl

pub cases : (b : Bool) → (b ≡ true) ⊎ (b ≡ false)
cases true = inl refl
cases false = inr refl

or_other : (a b : Bool) → a ≡ false → (a || b) ≡ true → b ≡ true
or_other true b strict e = absurd (false≢true (sym strict))
or_other false b strict e = e

in_cond : {X : Type 0} (b : Bool) (y : X) (zs : List X) (x : X) → Contains zs x → Contains (cond b (y ∷ zs) zs) x
in_cond true y zs x c = contains_tail y x zs c
in_cond false y zs x c = c

pub kept_contains : {X : Type 0} (q : X → Bool) (xs : List X) (x : X) → q x ≡ true → Contains xs x → Contains (filter q xs) x
kept_contains q [] x is c = c
kept_contains q (y ∷ ys) x is c = contains_cases (Contains (filter q (y ∷ ys)) x) y x ys
    (λ same. subst (λ b. Contains (cond b (y ∷ filter q ys) (filter q ys)) x) (sym (ap q same ∙ is)) (subst (λ z. Contains (z ∷ filter q ys) x) (sym same) (contains_head x (filter q ys))))
    (λ rest. in_cond (q y) y (filter q ys) x (kept_contains q ys x is rest)) c.0 c.1 c.2

all_kept_one : {X : Type 0} (p : X → Bool) (b : Bool) (x : X) (zs : List X) → p x ≡ true → list_all p zs ≡ true → list_all p (cond b (x ∷ zs) zs) ≡ true
all_kept_one p true x zs here rest = and_from (p x) (list_all p zs) here rest
all_kept_one p false x zs here rest = rest

-- what holds of all holds of those kept, and what holds of one that is kept holds of one
pub all_kept : {X : Type 0} (p q : X → Bool) (xs : List X) → list_all p xs ≡ true → list_all p (filter q xs) ≡ true
all_kept p q [] e = refl
all_kept p q (x ∷ xs) e = let both = and_parts (p x) (list_all p xs) e in all_kept_one p (q x) x (filter q xs) both.0 (all_kept p q xs both.1)

any_kept_one : {X : Type 0} (p : X → Bool) (b : Bool) (x : X) (xs zs : List X) → (list_any p zs ≡ true → list_any p xs ≡ true) → list_any p (cond b (x ∷ zs) zs) ≡ true → (p x || list_any p xs) ≡ true
any_kept_one p true x xs zs rest e = or_implies (p x) (list_any p zs) (p x) (list_any p xs) (λ e. e) rest e
any_kept_one p false x xs zs rest e = or_right (p x) (list_any p xs) (rest e)

pub any_kept : {X : Type 0} (p q : X → Bool) (xs : List X) → list_any p (filter q xs) ≡ true → list_any p xs ≡ true
any_kept p q [] e = e
any_kept p q (x ∷ xs) e = any_kept_one p (q x) x xs (filter q xs) (any_kept p q xs) e

all_dropped_one : {X : Type 0} (p : X → Bool) (b : Bool) (x : X) (zs : List X) → (b ≡ false → p x ≡ true) → list_all p (cond b (x ∷ zs) zs) ≡ (p x && list_all p zs)
all_dropped_one p true x zs agrees = refl
all_dropped_one p false x zs agrees = sym (ap (λ b. b && list_all p zs) (agrees refl))

-- to leave out elements that agree with what the others say changes nothing
all_dropped : {X : Type 0} (p q : X → Bool) → ((x : X) → q x ≡ false → p x ≡ true) → (xs : List X) → list_all p (filter q xs) ≡ list_all p xs
all_dropped p q agrees [] = refl
all_dropped p q agrees (x ∷ xs) = all_dropped_one p (q x) x (filter q xs) (agrees x) ∙ ap (λ b. p x && b) (all_dropped p q agrees xs)

any_dropped_one : {X : Type 0} (p : X → Bool) (b : Bool) (x : X) (zs : List X) → (b ≡ false → p x ≡ false) → list_any p (cond b (x ∷ zs) zs) ≡ (p x || list_any p zs)
any_dropped_one p true x zs agrees = refl
any_dropped_one p false x zs agrees = sym (ap (λ b. b || list_any p zs) (agrees refl))

any_dropped : {X : Type 0} (p q : X → Bool) → ((x : X) → q x ≡ false → p x ≡ false) → (xs : List X) → list_any p (filter q xs) ≡ list_any p xs
any_dropped p q agrees [] = refl
any_dropped p q agrees (x ∷ xs) = any_dropped_one p (q x) x (filter q xs) (agrees x) ∙ ap (λ b. p x || b) (any_dropped p q agrees xs)

-- each type once says what all say

abbrev pub other : Ty → Ty → Bool
other t u = not (same_type t u)

not_back : (b : Bool) → not b ≡ false → b ≡ true
not_back true e = refl
not_back false e = sym e

pub not_true : (b : Bool) → not b ≡ true → b ≡ false
not_true false e = refl
not_true true e = sym e

not_other : (t u : Ty) → other t u ≡ false → t ≡ u
not_other t u e = same_right t u (not_back (same_type t u) e)

all_distinct_one : (p : Ty → Bool) (t : Ty) (ds : List Ty) (b : Bool) → p t ≡ b → (p t && list_all p (filter (other t) ds)) ≡ (p t && list_all p ds)
all_distinct_one p t ds true is = ap (λ b. p t && b) (all_dropped p (other t) (λ u e. ap p (sym (not_other t u e)) ∙ is) ds)
all_distinct_one p t ds false is = ap (λ b. b && list_all p (filter (other t) ds)) is ∙ sym (ap (λ b. b && list_all p ds) is)

all_distinct : (p : Ty → Bool) (ts : List Ty) → list_all p (distinct ts) ≡ list_all p ts
all_distinct p [] = refl
all_distinct p (t ∷ ts) = all_distinct_one p t (distinct ts) (p t) refl ∙ ap (λ b. p t && b) (all_distinct p ts)

any_distinct_one : (p : Ty → Bool) (t : Ty) (ds : List Ty) (b : Bool) → p t ≡ b → (p t || list_any p (filter (other t) ds)) ≡ (p t || list_any p ds)
any_distinct_one p t ds true is = ap (λ b. b || list_any p (filter (other t) ds)) is ∙ sym (ap (λ b. b || list_any p ds) is)
any_distinct_one p t ds false is = ap (λ b. p t || b) (any_dropped p (other t) (λ u e. ap p (sym (not_other t u e)) ∙ is) ds)

pub any_distinct : (p : Ty → Bool) (ts : List Ty) → list_any p (distinct ts) ≡ list_any p ts
any_distinct p [] = refl
any_distinct p (t ∷ ts) = any_distinct_one p t (distinct ts) (p t) refl ∙ ap (λ b. p t || b) (any_distinct p ts)

-- literals and their base types

-- the base type of a literal
data IsBaseOf (b x : Ty) : Type 0 where
  int_base : (n : _) → out-Ty b ≡ Int → out-Ty x ≡ IntLit n → IsBaseOf b x
  str_base : (s : List ℕ) → out-Ty b ≡ Str → out-Ty x ≡ StrLit s → IsBaseOf b x

abbrev pub bare : List Ty → Ty → Bool
bare ts t = not (is_covered ts t)

int_back : (x : Ty-F Ty) → is_int_form x ≡ true → x ≡ Int
int_back Int e = refl
int_back _ e = absurd (false≢true e)

str_back : (x : Ty-F Ty) → is_str_form x ≡ true → x ≡ Str
str_back Str e = refl
str_back _ e = absurd (false≢true e)

-- a covered literal has its base type among those that are left
base_left : (ts : List Ty) (x : Ty) (y : Ty-F Ty) → out-Ty x ≡ y → is_covered_form (list_any is_int ts) (list_any is_str ts) y ≡ true → (b : Ty) × Contains (filter (bare ts) ts) b × IsBaseOf b x
base_left ts x (IntLit n) is e =
    let found = any_contains is_int ts e in
    let form = int_back (out-Ty found.0) found.2 in
    (found.0, kept_contains (bare ts) ts found.0 (ap (λ z. not (is_covered_form (list_any is_int ts) (list_any is_str ts) z)) form) found.1, int_base n form is)
base_left ts x (StrLit s) is e =
    let found = any_contains is_str ts e in
    let form = str_back (out-Ty found.0) found.2 in
    (found.0, kept_contains (bare ts) ts found.0 (ap (λ z. not (is_covered_form (list_any is_int ts) (list_any is_str ts) z)) form) found.1, str_base s form is)
base_left ts x _ is e = absurd (false≢true e)

-- a test that holds of a literal wherever it holds of the base type needs no literal beside its base type
all_bare : (p : Ty → Bool) → ((b x : Ty) → IsBaseOf b x → p b ≡ true → p x ≡ true) → (ts : List Ty) → list_all p (filter (bare ts) ts) ≡ list_all p ts
all_bare p follows ts = same_when (list_all p (filter (bare ts) ts)) (list_all p ts)
    (λ e. all_from_contains p ts (λ x here. elim (cases (is_covered ts x)) as (λ c. p x ≡ true) [
      | inl covered ↦ let base = base_left ts x (out-Ty x) refl covered in follows base.0 x base.2 (all_contains p (filter (bare ts) ts) base.0 e base.1)
      | inr uncovered ↦ all_contains p (filter (bare ts) ts) x e (kept_contains (bare ts) ts x (ap not uncovered) here)
    ]))
    (all_kept p (bare ts) ts)

-- the same for a test that holds of the base type wherever it holds of the literal
any_bare : (p : Ty → Bool) → ((b x : Ty) → IsBaseOf b x → p x ≡ true → p b ≡ true) → (ts : List Ty) → list_any p (filter (bare ts) ts) ≡ list_any p ts
any_bare p follows ts = same_when (list_any p (filter (bare ts) ts)) (list_any p ts) (any_kept p (bare ts) ts)
    (λ e. let found = any_contains p ts e in
    elim (cases (is_covered ts found.0)) as (λ c. list_any p (filter (bare ts) ts) ≡ true) [
      | inl covered ↦ let base = base_left ts found.0 (out-Ty found.0) refl covered in any_from_contains p (filter (bare ts) ts) base.0 base.1 (follows base.0 found.0 base.2 found.2)
      | inr uncovered ↦ any_from_contains p (filter (bare ts) ts) found.0 (kept_contains (bare ts) ts found.0 (ap not uncovered) found.1) found.2
    ])

-- the members of a union

pub single_no_union : (t : Ty) → is_single t ≡ true → IsNoUnion t
single_no_union t e ms is = false≢true (sym (ap is_single_form (out_of t (Union ms) (ty.rolls-Union ms ∙ sym is))) ∙ e)

pub single_members : (t : Ty) → is_single t ≡ true → members t ≡ t ∷ []
single_members t e = members_one t (single_no_union t e)

flat_singles : (ts : List Ty) → list_all is_single ts ≡ true → flat_map members ts ≡ ts
flat_singles [] e = refl
flat_singles (t ∷ ts) e =
    let both = and_parts (is_single t) (list_all is_single ts) e in
    ap (λ r. r ++ flat_map members ts) (single_members t both.0) ∙ ap (λ r. t ∷ r) (flat_singles ts both.1)

members_from : (ts : List Ty) → list_all is_single ts ≡ true → members (union_from ts) ≡ ts
members_from [] e = members_union (ty.Union []) [] refl
members_from (t ∷ []) e = single_members t (and_parts (is_single t) true e).0
members_from (t ∷ u ∷ us) e = members_union (ty.Union (t ∷ u ∷ us)) (t ∷ u ∷ us) refl ∙ flat_singles (t ∷ u ∷ us) e

pub all_members : (ts : List Ty) → list_all is_single (flat_map members ts) ≡ true
all_members ts = all_flat is_single members ts ∙ all_from_contains (λ t. list_all is_single (members t)) ts (λ t here. members_single t)

-- what is left of flat types
abbrev pub left_of : List Ty → List Ty
left_of ts = distinct (filter (bare ts) ts)

pub left_single : (ts : List Ty) → list_all is_single ts ≡ true → list_all is_single (left_of ts) ≡ true
left_single ts e = all_distinct is_single (filter (bare ts) ts) ∙ all_kept is_single (bare ts) ts e

pub union_plain : (ts : List Ty) → list_any is_any (flat_map members ts) ≡ false → list_any is_value (flat_map members ts) ≡ false → union_form ts ≡ union_from (left_of (flat_map members ts))
union_plain ts no_any no_value =
    let flat = flat_map members ts in
    ap (λ b. cond b ty.Any (cond (list_any is_value flat) ty.Value (union_from (left_of flat)))) no_any ∙ ap (λ b. cond b ty.Value (union_from (left_of flat))) no_value

pub members_left : (ts : List Ty) → list_any is_any (flat_map members ts) ≡ false → list_any is_value (flat_map members ts) ≡ false → members (union_form ts) ≡ left_of (flat_map members ts)
members_left ts no_any no_value = ap members (union_plain ts no_any no_value) ∙ members_from (left_of (flat_map members ts)) (left_single (flat_map members ts) (all_members ts))

pub union_any : (ts : List Ty) → list_any is_any (flat_map members ts) ≡ true → union_form ts ≡ ty.Any
union_any ts e = let flat = flat_map members ts in ap (λ b. cond b ty.Any (cond (list_any is_value flat) ty.Value (union_from (left_of flat)))) e

pub union_value : (ts : List Ty) → list_any is_any (flat_map members ts) ≡ false → list_any is_value (flat_map members ts) ≡ true → union_form ts ≡ ty.Value
union_value ts no_any e =
    let flat = flat_map members ts in
    ap (λ b. cond b ty.Any (cond (list_any is_value flat) ty.Value (union_from (left_of flat)))) no_any ∙ ap (λ b. cond b ty.Value (union_from (left_of flat))) e

-- what is below a union, and what it is below

abbrev is_top_form : Ty-F Ty → Bool
is_top_form Value = true
is_top_form Any = true
is_top_form x = false

module _ (loose : Bool) (bodies : Bodies) (R : Test) where
  below_top : (x z : Ty-F Ty) → is_top_form z ≡ true → form_below R x z ≡ true
  below_top x Value e = refl
  below_top x Any e = refl
  below_top x _ e = absurd (false≢true e)

  top_below : (x y z : Ty-F Ty) → is_top_form x ≡ true → form_below R x z ≡ true → form_below R y z ≡ true
  top_below x y Value top e = refl
  top_below x y Any top e = refl
  top_below Value y _ top e = absurd (false≢true e)
  top_below Any y _ top e = absurd (false≢true e)
  top_below _ y _ top e = absurd (false≢true top)

  base_to : (y : Ty-F Ty) (n : _) → form_below R Int y ≡ true → form_below R (IntLit n) y ≡ true
  base_to Value n e = refl
  base_to Any n e = refl
  base_to Int n e = refl
  base_to _ n e = absurd (false≢true e)

  str_to : (y : Ty-F Ty) (s : List ℕ) → form_below R Str y ≡ true → form_below R (StrLit s) y ≡ true
  str_to Value s e = refl
  str_to Any s e = refl
  str_to Str s e = refl
  str_to _ s e = absurd (false≢true e)

  to_base : (y : Ty-F Ty) (n : _) → form_below R y (IntLit n) ≡ true → form_below R y Int ≡ true
  to_base (IntLit m) n e = refl
  to_base _ n e = absurd (false≢true e)

  to_str : (y : Ty-F Ty) (s : List ℕ) → form_below R y (StrLit s) ≡ true → form_below R y Str ≡ true
  to_str (StrLit r) s e = refl
  to_str _ s e = absurd (false≢true e)

  abbrev left_test : Ty → Ty → Bool
  left_test t a = (loose && is_any a) || list_any (member_below bodies R a) (members t)

  base_follows : (t b x : Ty) → IsBaseOf b x → left_test t b ≡ true → left_test t x ≡ true
  base_follows t b x (int_base n base lit) = or_implies (loose && is_any b) (list_any (member_below bodies R b) (members t)) (loose && is_any x) (list_any (member_below bodies R x) (members t))
      (λ e. absurd (false≢true (sym (ap is_any_form base) ∙ (and_parts loose (is_any b) e).1)))
      (any_implies (member_below bodies R b) (member_below bodies R x) (λ u e. ap (λ z. form_below R (unfold_form bodies z) (unfolded bodies u)) lit ∙ base_to (unfolded bodies u) n (sym (ap (λ z. form_below R (unfold_form bodies z) (unfolded bodies u)) base) ∙ e)) (members t))
  base_follows t b x (str_base s base lit) = or_implies (loose && is_any b) (list_any (member_below bodies R b) (members t)) (loose && is_any x) (list_any (member_below bodies R x) (members t))
      (λ e. absurd (false≢true (sym (ap is_any_form base) ∙ (and_parts loose (is_any b) e).1)))
      (any_implies (member_below bodies R b) (member_below bodies R x) (λ u e. ap (λ z. form_below R (unfold_form bodies z) (unfolded bodies u)) lit ∙ str_to (unfolded bodies u) s (sym (ap (λ z. form_below R (unfold_form bodies z) (unfolded bodies u)) base) ∙ e)) (members t))

  lit_follows : (s b x : Ty) → IsBaseOf b x → member_below bodies R s x ≡ true → member_below bodies R s b ≡ true
  lit_follows s b x (int_base n base lit) e = ap (λ z. form_below R (unfolded bodies s) (unfold_form bodies z)) base ∙ to_base (unfolded bodies s) n (sym (ap (λ z. form_below R (unfolded bodies s) (unfold_form bodies z)) lit) ∙ e)
  lit_follows s b x (str_base r base lit) e = ap (λ z. form_below R (unfolded bodies s) (unfold_form bodies z)) base ∙ to_str (unfolded bodies s) r (sym (ap (λ z. form_below R (unfolded bodies s) (unfold_form bodies z)) lit) ∙ e)

  -- a member that is `any` or `value` says what all say
  top_all : (t top : Ty) (flat : List Ty) → is_top_form (unfolded bodies top) ≡ true → (loose && is_any top) ≡ false → Contains flat top → list_any (member_below bodies R top) (members t) ≡ list_all (left_test t) flat
  top_all t top flat is strict here = same_when (list_any (member_below bodies R top) (members t)) (list_all (left_test t) flat)
      (λ e. all_from_contains (left_test t) flat (λ x in_flat. or_right (loose && is_any x) (list_any (member_below bodies R x) (members t))
      (any_implies (member_below bodies R top) (member_below bodies R x) (λ u e. top_below (unfolded bodies top) (unfolded bodies x) (unfolded bodies u) is e) (members t) e)))
      (λ e. or_other (loose && is_any top) (list_any (member_below bodies R top) (members t)) strict (all_contains (left_test t) flat top e here))

  flat_all_is : (t : Ty) (ts : List Ty) → list_all (left_test t) (flat_map members ts) ≡ list_all (λ s. step loose bodies R s t) ts
  flat_all_is t ts = all_flat (left_test t) members ts

  -- the union is `any` or `value`
  from_top : (t top : Ty) (ts : List Ty) → IsNoUnion top → is_top_form (unfolded bodies top) ≡ true → (loose && is_any top) ≡ false → Contains (flat_map members ts) top → step loose bodies R top t ≡ list_all (λ s. step loose bodies R s t) ts
  from_top t top ts single is strict here =
      step_single loose bodies R top t single
      ∙ (ap (λ b. b || list_any (member_below bodies R top) (members t)) strict
      ∙ (top_all t top (flat_map members ts) is strict here ∙ flat_all_is t ts))

  any_form : is_top_form (unfolded bodies ty.Any) ≡ true
  any_form = ap is_top_form (form_of bodies ty.Any Any ty.rolls-Any)

  value_form : is_top_form (unfolded bodies ty.Value) ≡ true
  value_form = ap is_top_form (form_of bodies ty.Value Value ty.rolls-Value)

  any_single : IsNoUnion ty.Any
  any_single = single_no_union ty.Any (ap is_single_form (out_of ty.Any Any ty.rolls-Any))

  value_single : IsNoUnion ty.Value
  value_single = single_no_union ty.Value (ap is_single_form (out_of ty.Value Value ty.rolls-Value))

  any_stands : (flat : List Ty) → list_any is_any flat ≡ true → Contains flat ty.Any
  any_stands flat e = let found = any_contains is_any flat e in subst (Contains flat) (any_form_back found.0 (out-Ty found.0) refl found.2) found.1

  value_back : (s : Ty) (x : Ty-F Ty) → out-Ty s ≡ x → is_value_form x ≡ true → s ≡ ty.Value
  value_back s Value xs e = sym (roll_out s) ∙ (ap roll-Ty xs ∙ ty.rolls-Value)
  value_back s _ xs e = absurd (false≢true e)

  value_stands : (flat : List Ty) → list_any is_value flat ≡ true → Contains flat ty.Value
  value_stands flat e = let found = any_contains is_value flat e in subst (Contains flat) (value_back found.0 (out-Ty found.0) refl found.2) found.1

  strict_and : (a b c : Bool) → b ≡ true → (a && b) ≡ false → (a && c) ≡ false
  strict_and true b c is e = absurd (false≢true (sym e ∙ is))
  strict_and false b c is e = refl

  and_false : (a b : Bool) → b ≡ false → (a && b) ≡ false
  and_false true b e = e
  and_false false b e = refl

  -- A union is below a type exactly where each of its types is.
  pub from_union_law : (ts : List Ty) (t : Ty) → (loose && list_any is_any (flat_map members ts)) ≡ false → step loose bodies R (union_form ts) t ≡ list_all (λ s. step loose bodies R s t) ts
  from_union_law ts t strict =
      let flat = flat_map members ts in
      elim (cases (list_any is_any flat)) as (λ c. step loose bodies R (union_form ts) t ≡ list_all (λ s. step loose bodies R s t) ts) [
        | inl any ↦ ap (λ u. step loose bodies R u t) (union_any ts any) ∙ from_top t ty.Any ts any_single any_form (strict_and loose (list_any is_any flat) (is_any ty.Any) any strict) (any_stands flat any)
        | inr no_any ↦ elim (cases (list_any is_value flat)) as (λ c. step loose bodies R (union_form ts) t ≡ list_all (λ s. step loose bodies R s t) ts) [
          | inl value ↦ ap (λ u. step loose bodies R u t) (union_value ts no_any value) ∙ from_top t ty.Value ts value_single value_form (and_false loose (is_any ty.Value) (any_of ty.Value Value ty.rolls-Value)) (value_stands flat value)
          | inr no_value ↦ ap (list_all (left_test t)) (members_left ts no_any no_value) ∙ (all_distinct (left_test t) (filter (bare flat) flat) ∙ (all_bare (left_test t) (base_follows t) flat ∙ flat_all_is t ts))
        ]
      ]

  to_top : (s top : Ty) (ts : List Ty) → is_top_form (unfolded bodies top) ≡ true → Contains (flat_map members ts) top → IsNoUnion top → list_any (member_below bodies R s) (members top) ≡ list_any (member_below bodies R s) (flat_map members ts)
  to_top s top ts is here single =
      let holds : member_below bodies R s top ≡ true = below_top (unfolded bodies s) (unfolded bodies top) is in
      ap (list_any (member_below bodies R s)) (members_one top single) ∙ (or_left (member_below bodies R s top) false holds ∙ sym (any_from_contains (member_below bodies R s) (flat_map members ts) top here holds))

  pub to_members : (s : Ty) (ts : List Ty) → list_any (member_below bodies R s) (members (union_form ts)) ≡ list_any (member_below bodies R s) (flat_map members ts)
  to_members s ts =
      let flat = flat_map members ts in
      let test = member_below bodies R s in
      elim (cases (list_any is_any flat)) as (λ c. list_any test (members (union_form ts)) ≡ list_any test flat) [
        | inl any ↦ ap (λ u. list_any test (members u)) (union_any ts any) ∙ to_top s ty.Any ts any_form (any_stands flat any) any_single
        | inr no_any ↦ elim (cases (list_any is_value flat)) as (λ c. list_any test (members (union_form ts)) ≡ list_any test flat) [
          | inl value ↦ ap (λ u. list_any test (members u)) (union_value ts no_any value) ∙ to_top s ty.Value ts value_form (value_stands flat value) value_single
          | inr no_value ↦ ap (list_any test) (members_left ts no_any no_value) ∙ (any_distinct test (filter (bare flat) flat) ∙ any_bare test (lit_follows s) flat)
        ]
      ]

  -- A type that is no union is below a union exactly where it is below one of its types.
  pub to_union_law : (s : Ty) (ts : List Ty) → IsNoUnion s → (loose && is_any s) ≡ false → step loose bodies R s (union_form ts) ≡ list_any (λ t. step loose bodies R s t) ts
  to_union_law s ts single strict =
      let test = member_below bodies R s in
      let each : (t : Ty) → list_any test (members t) ≡ step loose bodies R s t = λ t. sym (step_single loose bodies R s t single ∙ ap (λ b. b || list_any test (members t)) strict) in
      step_single loose bodies R s (union_form ts) single
      ∙ (ap (λ b. b || list_any test (members (union_form ts))) strict
      ∙ (to_members s ts
      ∙ (any_flat test members ts ∙ any_same (λ t. list_any test (members t)) (λ t. step loose bodies R s t) each ts)))
