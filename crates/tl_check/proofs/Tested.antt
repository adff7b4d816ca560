-- A test that says whether one type is below another is the order that the rules are given.
use Rattle.std.proofs.Common.{◌≡◌, ◌↔◌, refl, sym, subst, Bool, true, false, [], Result, Ok, Err, IfOk}
use Rattle.tl_base.specs.declared.memory.NoMemory.{NoMemory}
use Rattle.tl_types.specs.declared.types.Ty.{Ty}
use Rattle.tl_types.specs.Types.{Bodies}
use Rattle.tl_types.specs.Below.{IsBelow}
use Rattle.tl_rules.specs.Orders.{order}
use Rattle.tl_rules.proofs.Decided.{are_orders}

same_test : (a b : Bool) → (a ≡ true → b ≡ true) → (b ≡ true → a ≡ true) → a ≡ b
same_test true b f g = sym (f refl)
same_test false true f g = g refl
same_test false false f g = refl

order_is : (loose : Bool) (s t : Ty) → (order loose s t ≡ true) ↔ IsBelow loose [] s t
order_is false s t = are_orders.subtype s t
order_is true s t = are_orders.consistent s t

pub tested : (loose : Bool) (bodies : Bodies) (s t : Ty) (r : Result Bool NoMemory) → bodies ≡ [] → IfOk r (λ yes. (yes ≡ true) ↔ IsBelow loose bodies s t) → IfOk r (λ yes. yes ≡ order loose s t)
tested loose bodies s t (Ok answer) none h =
    same_test answer (order loose s t) (λ e. (order_is loose s t).1 (subst (λ bs. IsBelow loose bs s t) none (h.0 e))) (λ e. h.1 (subst (λ bs. IsBelow loose bs s t) (sym none) ((order_is loose s t).0 e)))
tested loose bodies s t (Err e) none h = tt
