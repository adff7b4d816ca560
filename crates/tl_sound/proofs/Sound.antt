-- The laws.
use Rattle.std.proofs.Common.{◌≡◌, refl, sym, subst, ℕ, ◌-◌, zero, suc, List, [], ◌∷◌, Option, Some, None}
use Rattle.std.specs.Prelude.{IfSome, IsSome, Contains}
use Rattle.tl_base.specs.declared.place.ModuleKind.{ModuleKind}
use Rattle.tl_base.specs.declared.place.ModuleKind.TheVariants.{Typed, Untyped}
use Rattle.tl_base.specs.declared.crossing.Crossing.{Crossing}
use Rattle.lua_tree.specs.declared.scoped.Use.{Use}
use Rattle.lua_tree.specs.Tree.{Block}
use Rattle.tl_types.specs.Below.{Test}
use Rattle.tl_rules.specs.Checked.{fine}
use Rattle.tl_rules.specs.Crossings.{block_marks, IsCrossingList}
use Rattle.tl_rules.specs.Statements.{check_block, check_module}
use Rattle.lua_values.specs.declared.value.Value.{Value}
use Rattle.lua_meaning.specs.World.{KindError, World}
use Rattle.lua_meaning.specs.Environment.{Names}
use Rattle.lua_meaning.specs.Outcomes.{Act, Outcome, gives, raises, cut, give, results_of, ◌>>=◌}
use Rattle.lua_meaning.specs.Trees.{exec_all}
use Rattle.lua_meaning.specs.Calls.{limit, below_of, apply}
use Rattle.lua_meaning.specs.Programs.{Module, meaning, start, run_with, result_of, outermost}
use Rattle.tl_sound.specs.Laws.{IsMarked, HasMark, IsAfterOneOf}
use Rattle.tl_sound.proofs.Keeps.{Ends, then_keep, give_keep}
use Rattle.tl_sound.proofs.KeepsLevels.{below_keeps, main_keeps}
use Rattle.tl_sound.proofs.Late.{Stands, Marked, AnyMark, marked_stable}
use Rattle.tl_sound.proofs.Untyped.{Quiet, quiet_stable}
use Rattle.tl_sound.proofs.Listed.{all_listed}
use Rattle.tl_sound.proofs.Runs.{Given, given_then, given_is, After, after_then, good}
use Rattle.tl_sound.proofs.Locals.{agree_none}
use Rattle.tl_sound.proofs.Forms.{StepsAll}
use Rattle.tl_sound.proofs.Join.{StepsBlock, block_sound}

-- the record stands in order wherever the run ends
abbrev StandsEnd : {A : Type 0} → Outcome A → Type 0
StandsEnd (gives a w cs) = Stands w
StandsEnd (raises v w cs) = Stands w
StandsEnd (cut w) = Stands w

stood : {A : Type 0} (P : A → World → Type 0) (r : Outcome A) → After P r → StandsEnd r
stood P (gives a w cs) h = h.stands
stood P (raises v w cs) h = h
stood P (cut w) h = h

none_stands : (o : Option KindError) → o ≡ None → IfSome o HasMark
none_stands o e = subst (λ p. IfSome p HasMark) (sym e) tt

quiet_stood : {A : Type 0} (r : Outcome A) → Ends Quiet AnyMark r → StandsEnd r
quiet_stood (gives a w cs) h = none_stands w.error h.0.none
quiet_stood (raises v w cs) h = none_stands w.error h.0.none
quiet_stood (cut w) h = none_stands w.error h.none

result_stands : {A : Type 0} (n : ℕ) (r : Outcome A) → StandsEnd r → IfSome (result_of n r).error HasMark
result_stands n (gives a w cs) h = h
result_stands n (raises v w cs) h = h
result_stands n (cut w) h = h

-- the block of the main module, behind its turn
abbrev main_block : ℕ → Names → Block → Act (List Value)
main_block n names b = exec_all (apply (below_of n) (limit - 1)) ((below_of n).loop (limit - 1)) b (outermost names) >>= (λ flow. give (results_of flow))

abbrev began : ModuleKind → List (List ℕ) → List ℕ → ℕ → ℕ → World
began kind words input n left = record (start (kind ∷ []) words input n) { turns = left }

takes : (n : ℕ) (uses : List Use) (below consistent : Test) (b : Block) → Given (StepsAll uses (below_of n) (below_keeps Marked AnyMark marked_stable n) (limit - 1) []) (check_module uses below consistent Typed b)
takes n uses below consistent b =
    given_then (StepsBlock uses (below_of n) (below_keeps Marked AnyMark marked_stable n) (limit - 1) below consistent []) (StepsAll uses (below_of n) (below_keeps Marked AnyMark marked_stable n) (limit - 1) [])
    (check_block uses below consistent [] b) _ (block_sound uses (below_of n) (below_keeps Marked AnyMark marked_stable n) (limit - 1) below consistent [] b) (λ t h. h)

block_stands : (kind : ModuleKind) (below consistent : Test) (names : Names) (b marked : Block) (words : List (List ℕ)) (input : List ℕ) (m n left : ℕ)
    → check_module names.uses below consistent kind b ≡ fine marked → StandsEnd (main_block m names marked (began kind words input n left) [])
block_stands Typed below consistent names b marked words input m n left e =
    let steps = given_is _ (check_module names.uses below consistent Typed b) marked e (takes m names.uses below consistent b) in
    stood (λ vs u. Unit {0}) _
    (after_then (λ flow u. Unit {0}) (λ vs u. Unit {0}) (exec_all (apply (below_of m) (limit - 1)) ((below_of m).loop (limit - 1)) marked (outermost names) (began Typed words input n left) []) _
    (steps.runs (outermost names) (began Typed words input n left) [] (record { stands = tt; clear = refl; names = refl; agree = agree_none }) refl)
    (λ flow. give_keep Marked AnyMark (results_of flow))
    (λ flow w cs st c u. good w _ st tt))
block_stands Untyped below consistent names b marked words input m n left e =
    quiet_stood _
    ((then_keep Quiet AnyMark _ _ (main_keeps Quiet AnyMark quiet_stable m (limit - 1) marked (outermost names) (λ c i. tt)) (λ flow. give_keep Quiet AnyMark (results_of flow))).at
    (began Untyped words input n left) [] (record { kinds = refl; none = refl }) tt)

run_stands : (kind : ModuleKind) (below consistent : Test) (names : Names) (b marked : Block) (words : List (List ℕ)) (input : List ℕ) (m n : ℕ)
    → check_module names.uses below consistent kind b ≡ fine marked → StandsEnd (run_with (limit - 1) m (record { kind = kind; names = names; body = marked }) (start (kind ∷ []) words input n) [])
run_stands kind below consistent names b marked words input m zero e = tt
run_stands kind below consistent names b marked words input m (suc left) e = block_stands kind below consistent names b marked words input m (suc left) left e

pub errors_stand : (below consistent : Test) (m m' : Module) (words : List (List ℕ)) (input : List ℕ) (n : ℕ) → IsMarked below consistent m m' → IfSome (meaning (m' ∷ []) words input n).error HasMark
errors_stand below consistent m m' words input n h =
    let typed : check_module m'.names.uses below consistent m'.kind m.body ≡ fine m'.body =
    subst (λ k. check_module m'.names.uses below consistent k m.body ≡ fine m'.body) (sym h.kind)
    (subst (λ (ns : Names). check_module ns.uses below consistent m.kind m.body ≡ fine m'.body) (sym h.names) h.body) in
    result_stands n _ (run_stands m'.kind below consistent m'.names m.body m'.body words input n n typed)

named : (list : List Crossing) (o : Option KindError) → IfSome o HasMark → IfSome o (λ e. IfSome e.after (Contains list)) → IfSome o (IsAfterOneOf list)
named list None h k = tt
named list (Some e) h k = after e.after h k
  where
    after : (o : Option Crossing) → IsSome o → IfSome o (Contains list) → (c : Crossing) × (o ≡ Some c) × Contains list c
    after None h k = let e : ⊥ = cc in absurd e
    after (Some c) h k = (c, refl, k)

pub errors_named : (below consistent : Test) (m m' : Module) (words : List (List ℕ)) (input : List ℕ) (n : ℕ) (list : List Crossing) → IsMarked below consistent m m' → IsCrossingList (block_marks m'.body) list
    → IfSome (meaning (m' ∷ []) words input n).error (IsAfterOneOf list)
errors_named below consistent m m' words input n list h l =
    named list (meaning (m' ∷ []) words input n).error (errors_stand below consistent m m' words input n h) (all_listed list (m' ∷ []) words input n l).after
