-- To assume a pair: it stands among those that were met, or it is new.
use Rattle.std.proofs.Common.{◌≡◌, ℕ, ◌<◌, Bool, true, false, List, [], ◌∷◌, ◌++◌, refl, sym, ap, ◌∙◌, subst, length, get_or, arith, length-append}
use Rattle.std.proofs.Math.ListN.{get_or-append}
use Rattle.std.proofs.Math.Seq.{get_or-append_seam}
use Rattle.std.specs.Prelude.{All, Ok, Some, slice_get}
use Rattle.std.proofs.lemmas.Bool.{true≢false}
use Rattle.std.proofs.lemmas.Option.{get_or_from_slice_get, slice_get_within}
use Rattle.std.proofs.lemmas.List.Elements.{All-push}
use Rattle.tl_types.specs.Types.{Bodies}
use Rattle.tl_types.specs.Below.{Test, below}
use Rattle.subtyping.specs.declared.pairs.Pair.{Pair}
use Rattle.subtyping.specs.declared.pairs.Side.{Side}
use Rattle.subtyping.specs.Pairs.{side_ty, holds, Compared, IsPairAt}

-- what holds of each element holds of the one at k
pub all_at : (P : Pair → Type 0) (pairs : List Pair) (k : ℕ) (p : Pair) → slice_get pairs k ≡ Some p → All P pairs → P p
all_at P pairs k p is all = subst P (get_or_from_slice_get pairs k p p is) (all k p (slice_get_within pairs k p is))

append_nil : {X : Type 0} (xs : List X) → xs ++ [] ≡ xs
append_nil [] = refl
append_nil (x ∷ xs) = ap (λ r. x ∷ r) (append_nil xs)

pub found_pair : (loose : Bool) (bodies : Bodies) (pairs : List Pair) (left right : Side) (k : ℕ) (p : Pair) → IsPairAt pairs left right k → p ≡ get_or pairs k p → Compared loose bodies pairs pairs (λ R. R (side_ty left) (side_ty right)) (Ok p.alive)
found_pair loose bodies pairs left right k p here is =
    let lefts : side_ty p.left ≡ side_ty left = ap (λ q. side_ty q.left) is ∙ here.lefts p in
    let rights : side_ty p.right ≡ side_ty right = ap (λ q. side_ty q.right) is ∙ here.rights p in
    let turned : (R : Test) → holds R p ≡ R (side_ty left) (side_ty right) = λ R. ap (λ s. R s (side_ty p.right)) lefts ∙ ap (R (side_ty left)) rights in
    record {
      added = ([], sym (append_nil pairs));
      grows = λ R t. t;
      sound = λ s. s;
      verdict = λ s. record {
        yes = λ alive R trusts. sym (turned R) ∙ subst (λ q. q.alive ≡ true → holds R q ≡ true) (sym is) (trusts k p here.within) alive;
        no = λ dead. let n = subst (λ q. q.alive ≡ false → (n : ℕ) × (holds (below loose bodies n) q ≡ false)) (sym is) (s k p here.within) dead in (n.0, sym (turned (below loose bodies n.0)) ∙ n.1);
      };
    }

all_front : (P : Pair → Type 0) (xs : List Pair) (y : Pair) → All P (xs ++ y ∷ []) → All P xs
all_front P xs y all k d within = subst P (get_or-append xs (y ∷ []) d k within) (all k d (omega (arith, within, length-append xs (y ∷ []))))

all_last : (P : Pair → Type 0) (xs : List Pair) (y : Pair) → All P (xs ++ y ∷ []) → P y
all_last P xs y all = subst P (get_or-append_seam xs y [] y) (all (length xs) y (omega (arith, length-append xs (y ∷ []))))

pub new_pair : (loose : Bool) (bodies : Bodies) (pairs : List Pair) (p : Pair) → p.alive ≡ true → Compared loose bodies pairs (pairs ++ p ∷ []) (λ R. R (side_ty p.left) (side_ty p.right)) (Ok true)
new_pair loose bodies pairs p alive = record {
  added = (p ∷ [], refl);
  grows = λ R. all_front (λ q. q.alive ≡ true → holds R q ≡ true) pairs p;
  sound = λ s. All-push (λ q. q.alive ≡ false → (n : ℕ) × (holds (below loose bodies n) q ≡ false)) pairs p s (λ dead. absurd (true≢false (sym alive ∙ dead)));
  verdict = λ s. record {
    yes = λ e R trusts. all_last (λ q. q.alive ≡ true → holds R q ≡ true) pairs p trusts alive;
    no = λ e. absurd (true≢false e);
  };
}

pub pair_at : (pairs seen : List Pair) (left right : Side) (k : ℕ) (p : Pair) → seen ≡ pairs → k < length seen → ((d : Pair) → p ≡ get_or seen k d) → side_ty p.left ≡ side_ty left → side_ty p.right ≡ side_ty right → IsPairAt pairs left right k
pair_at pairs seen left right k p same within is lefts rights = subst (λ all. IsPairAt all left right k) same (record {
  within = within;
  lefts = λ d. ap (λ q. side_ty q.left) (sym (is d)) ∙ lefts;
  rights = λ d. ap (λ q. side_ty q.right) (sym (is d)) ∙ rights;
})
