-- The marked form of a module runs as the module does.
use Rattle.std.proofs.Common.{◌≡◌, sym, subst, ◌∙◌, ℕ, List, [], ◌∷◌, map}
use Rattle.tl_types.specs.Below.{Test}
use Rattle.lua_tree.specs.Plain.{plain_block}
use Rattle.lua_meaning.specs.PlainPrograms.{plain_module, IsSameRun}
use Rattle.lua_meaning.specs.Programs.{Module, Result, meaning}
use Rattle.tl_rules.proofs.Marking.{module_same}
use Rattle.tl_sound.specs.Laws.{IsMarked}

plain_same : (below consistent : Test) (m m' : Module) → IsMarked below consistent m m' → plain_module m' ≡ plain_module m
plain_same below consistent m m' h =
    let body : plain_block m'.body ≡ plain_block m.body = module_same m.names.uses below consistent m.kind m.body m'.body h.body in
    λ i. record { kind = h.kind i; names = h.names i; body = body i }

joined : (r q s : Result) → IsSameRun r s → IsSameRun q s → IsSameRun r q
joined r q s h k = record { output = h.output ∙ sym k.output; ending = h.ending ∙ sym k.ending; turns = h.turns ∙ sym k.turns }

pub runs_alike : ((ms : List Module) (words : List (List ℕ)) (input : List ℕ) (n : ℕ) → IsSameRun (meaning ms words input n) (meaning (map plain_module ms) words input n))
    → (below consistent : Test) (m m' : Module) (words : List (List ℕ)) (input : List ℕ) (n : ℕ) → IsMarked below consistent m m' → IsSameRun (meaning (m' ∷ []) words input n) (meaning (m ∷ []) words input n)
runs_alike plain below consistent m m' words input n h =
    joined (meaning (m' ∷ []) words input n) (meaning (m ∷ []) words input n) (meaning (plain_module m ∷ []) words input n)
    (subst (λ z. IsSameRun (meaning (m' ∷ []) words input n) (meaning (z ∷ []) words input n)) (plain_same below consistent m m' h) (plain (m' ∷ []) words input n))
    (plain (m ∷ []) words input n)
