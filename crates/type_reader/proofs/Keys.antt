-- Whether a type may be a key type, by its form.
use Rattle.std.proofs.Common.{◌≡◌, ℕ, zero, suc, ◌<◌, ◌≤◌, length, get_or, drop, arith, not, Bool, true, false, ◌&&◌, List, [], ◌∷◌, refl, ap, ◌∙◌, sym}
use Rattle.std.specs.Prelude.{flat_map, Some, None}
use Rattle.std.specs.Option.{option_or}
use Rattle.std.proofs.lemmas.List.{drop_all}
use Rattle.tl_base.specs.declared.refusal.RefusalCode.TheVariants as code
use Rattle.tl_base.specs.declared.place.Pos.{Pos}
use Rattle.std.specs.List.{list_all}
use Rattle.std.proofs.lemmas.List.Folds.{list_all-append}
use Rattle.tl_types.specs.declared.types.Ty.{Ty, out-Ty, roll-Ty}
use Rattle.tl_types.specs.declared.types.Ty.TheVariants as ty
use Rattle.tl_types.specs.declared.types.Ty.TheOpen.{Ty-F, Nil, True, False, Int, IntLit, Str, StrLit, Value, Any, Union, Func, Rec, Map, Iface}
use Rattle.tl_types.specs.Types.{members}
use Rattle.tl_types.proofs.Members.{form_members, members_is, out_of}
use Rattle.tl_types.specs.Unions.{boolean}
use Rattle.type_reader.specs.Faults.{is_key, is_key_form, Told, at, fault_where, key_fault}

abbrev pub form_key : Ty-F Ty → Bool
form_key (Union ms) = list_all is_key ms
form_key x = is_key_form x

flat_keys : (ms : List Ty) → list_all (λ m. is_key_form (out-Ty m)) (flat_map members ms) ≡ list_all is_key ms
flat_keys [] = refl
flat_keys (m ∷ ms) = list_all-append (λ x. is_key_form (out-Ty x)) (members m) (flat_map members ms) ∙ ap (λ b. is_key m && b) (flat_keys ms)

and_true : (b : Bool) → (b && true) ≡ b
and_true true = refl
and_true false = refl

single : (t : Ty) (x : Ty-F Ty) → out-Ty t ≡ x → (is_key_form (out-Ty t) && true) ≡ is_key_form x
single t x e = and_true (is_key_form (out-Ty t)) ∙ ap is_key_form e

by_form : (t : Ty) (x : Ty-F Ty) → out-Ty t ≡ x → list_all (λ m. is_key_form (out-Ty m)) (form_members t x) ≡ form_key x
by_form t (Union ms) e = flat_keys ms
by_form t Nil e = single t Nil e
by_form t True e = single t True e
by_form t False e = single t False e
by_form t Int e = single t Int e
by_form t (IntLit n) e = single t (IntLit n) e
by_form t Str e = single t Str e
by_form t (StrLit s) e = single t (StrLit s) e
by_form t Value e = single t Value e
by_form t Any e = single t Any e
by_form t (Func f) e = single t (Func f) e
by_form t (Rec fs) e = single t (Rec fs) e
by_form t (Map k v) e = single t (Map k v) e
by_form t (Iface n) e = single t (Iface n) e

pub key_is : (t : Ty) → is_key t ≡ form_key (out-Ty t)
key_is t = ap (list_all (λ m. is_key_form (out-Ty m))) (members_is t) ∙ by_form t (out-Ty t) refl

pub key_of : (t : Ty) (x : Ty-F Ty) → roll-Ty x ≡ t → is_key t ≡ form_key x
key_of t x e = key_is t ∙ ap form_key (out_of t x e)

pub key_union : (t : Ty) (ms : List Ty) → t ≡ ty.Union ms → is_key t ≡ list_all is_key ms
key_union t ms is = key_of t (Union ms) (ty.rolls-Union ms ∙ sym is)

pub key_boolean : is_key boolean ≡ true
key_boolean = key_union boolean (ty.True ∷ ty.False ∷ []) refl ∙ ap (λ b. b && (is_key ty.False && true)) (key_of ty.True True ty.rolls-True) ∙ ap (λ b. b && true) (key_of ty.False False ty.rolls-False)

false_second : (b : Bool) → (b && false) ≡ false
false_second true = refl
false_second false = refl

pub no_keys : (ms : List Ty) (i : ℕ) (d : Ty) → i < length ms → is_key (get_or ms i d) ≡ false → list_all is_key ms ≡ false
no_keys [] i d within here = absurd (omega arith)
no_keys (m ∷ ms) zero d within here = ap (λ b. b && list_all is_key ms) here
no_keys (m ∷ ms) (suc i) d within here =
    let lt : i < length ms = omega arith in
    ap (λ b. is_key m && b) (no_keys ms i d lt here) ∙ false_second (is_key m)

pub all_keys : (ms : List Ty) (i : ℕ) → length ms ≤ i → list_all is_key (drop i ms) ≡ list_all is_key ms → list_all is_key ms ≡ true
all_keys ms i past e = sym e ∙ ap (list_all is_key) (drop_all i ms past)

-- a key type without a fault of its own
pub no_key_fault : (k : Told) → k.fault ≡ None → k.key ≡ false → key_fault k ≡ Some (at code.Y4 k.place)
no_key_fault k fault key = ap (λ f. option_or f (fault_where (not k.key) code.Y4 k.place)) fault ∙ ap (λ b. fault_where (not b) code.Y4 k.place) key

pub circle_told : (a b : Bool) (p : Pos) → a ≡ true → b ≡ true → fault_where (a && b) code.Y5 p ≡ Some (at code.Y5 p)
circle_told a b p one two = ap (λ x. fault_where (x && b) code.Y5 p) one ∙ ap (λ x. fault_where x code.Y5 p) two
