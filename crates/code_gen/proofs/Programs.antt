-- The functions of a program, module by module, their shapes, and what they mean.
use Rattle.std.proofs.Common.{◌≡◌, ℕ, ◌+◌, ◌<◌, List, [], ◌∷◌, ◌++◌, length, map, IfOk, Result, Ok, Err, sym, ap, ◌∙◌, subst, append_assoc, length-append, arith}
use Rattle.std.proofs.lemmas.List.{length-map}
use Rattle.tl_base.specs.declared.memory.NoMemory.{NoMemory}
use Rattle.lua_tree.specs.declared.scoped.Scoped.{Scoped}
use Rattle.lua_meaning.specs.Programs.{Module, module_of}
use Rattle.lua_code.specs.declared.code.Code.{Code}
use Rattle.lua_code.specs.declared.code.Proto.{Proto}
use Rattle.lua_code.specs.Sizes.{block_functions}
use Rattle.lua_code.specs.Faithful.{IsFaithful}
use Rattle.lua_code.specs.Shapes.{IsWellFormed}
use Rattle.lua_code.specs.Generated.{block_protos, module_scope, main_protos, inner_protos, program}
use Rattle.code_gen.specs.Modules.{module_proto}

-- a module's block comes behind those before it
pub next_block : (ms : List Module) (x : Module) (bs new : List Proto) (p : Proto) (n b next : ℕ) (all : List Proto) → new ≡ bs ++ p ∷ [] → p ≡ module_proto n x b → next ≡ b + block_functions x.body
    → bs ++ main_protos (x ∷ ms) n b ≡ all → new ++ main_protos ms (n + 1) next ≡ all
next_block ms x bs new p n b next all e f g h =
    ap (λ z. z ++ main_protos ms (n + 1) next) e
    ∙ append_assoc bs (p ∷ []) (main_protos ms (n + 1) next)
    ∙ ap (λ z. bs ++ (z ∷ main_protos ms (n + 1) next)) f
    ∙ ap (λ z. bs ++ (module_proto n x b ∷ main_protos ms (n + 1) z)) g
    ∙ h

-- and the functions inside it behind those inside the blocks before it
pub next_inner : (ms : List Module) (x : Module) (inner new : List Proto) (b next : ℕ) (all : List Proto) → new ≡ inner ++ block_protos x.body (module_scope x.names) b → next ≡ b + block_functions x.body
    → inner ++ inner_protos (x ∷ ms) b ≡ all → new ++ inner_protos ms next ≡ all
next_inner ms x inner new b next all e g h =
    ap (λ z. z ++ inner_protos ms next) e
    ∙ append_assoc inner (block_protos x.body (module_scope x.names) b) (inner_protos ms next)
    ∙ ap (λ z. inner ++ (block_protos x.body (module_scope x.names) b ++ inner_protos ms z)) g
    ∙ h

pub next_base : (first n : ℕ) (inner more new : List Proto) → new ≡ inner ++ more → length more ≡ n → first + length new ≡ first + length inner + n
next_base first n inner more new e h = omega (arith, ap length e, length-append inner more, h)

-- what has the meaning of each program has it where the program is written
pub written_means : ((m : Module) (ms : List Module) → IsFaithful (m ∷ ms) (program (m ∷ ms))) → (ss : List Scoped) (r : Result Code NoMemory) → IfOk r (λ c. c ≡ program (map module_of ss)) → 0 < length ss → IfOk r (IsFaithful (map module_of ss))
written_means law [] r e h = absurd (omega (arith, h))
written_means law (s ∷ ss) (Ok c) e h = subst (IsFaithful (map module_of (s ∷ ss))) (sym e) (law (module_of s) (map module_of ss))
written_means law (s ∷ ss) (Err x) e h = tt

-- what is well formed for each program is so where the program is written
pub written_formed : ((m : Module) (ms : List Module) → IsWellFormed (program (m ∷ ms)) (length (m ∷ ms))) → (ss : List Scoped) (r : Result Code NoMemory) → IfOk r (λ c. c ≡ program (map module_of ss)) → 0 < length ss
    → IfOk r (λ c. IsWellFormed c (length ss))
written_formed law [] r e h = absurd (omega (arith, h))
written_formed law (s ∷ ss) (Ok c) e h =
    subst (λ c. IsWellFormed c (length (s ∷ ss))) (sym e) (subst (λ n. IsWellFormed (program (map module_of (s ∷ ss))) n) (length-map (s ∷ ss) module_of) (law (module_of s) (map module_of ss)))
written_formed law (s ∷ ss) (Err x) e h = tt
