-- The code of a program is well formed.
use Rattle.std.proofs.Common.{◌≡◌, refl, ap, subst, ℕ, zero, suc, ◌+◌, ◌<◌, false, List, [], ◌∷◌, ◌++◌, length, slice_get, Some, arith}
use Rattle.std.proofs.lemmas.List.{length-append}
use Rattle.lua_meaning.specs.Programs.{Module}
use Rattle.lua_code.specs.declared.code.Proto.{Proto}
use Rattle.lua_code.specs.Sizes.{block_functions, block_slots}
use Rattle.lua_code.specs.Generated.{body_code, proto_of, block_protos, module_place, module_scope, main_protos, inner_protos, program}
use Rattle.lua_code.specs.Shapes.{IsBlock, IsWellFormed}
use Rattle.lua_code.proofs.Faithful.Lists.{HasAt, has_front, has_next, has_all}
use Rattle.lua_code.proofs.Faithful.Lengths.{block_count}
use Rattle.lua_code.proofs.Formed.Functions.{Every, every_join, every_at, function_formed, block_every}

main_count : (ms : List Module) (m base : ℕ) → length (main_protos ms m base) ≡ length ms
main_count [] m base = refl
main_count (x ∷ xs) m base = ap suc (main_count xs (m + 1) (base + block_functions x.body))

-- the first functions are the modules' blocks
blocks_first : (ms : List Module) (m base : ℕ) (others : List Proto) (i : ℕ) (q : Proto) → i < length ms → slice_get (main_protos ms m base ++ others) i ≡ Some q → IsBlock q
blocks_first [] m base others i q lt e = absurd (Prim.omega (arith, lt))
blocks_first (x ∷ xs) m base others zero q lt e =
    let made : Proto = proto_of 0 false [] (block_slots x.body) (body_code 0 x.body (module_place m) (module_scope x.names) base) in
    let same : made ≡ q = (let g : Some made ≡ Some q = e in Prim.cc) in
    subst (λ z. IsBlock z) same (record { params = refl; captures = refl })
blocks_first (x ∷ xs) m base others (suc i) q lt e = blocks_first xs (m + 1) (base + block_functions x.body) others i q (Prim.omega (arith, lt)) e

module _ (code : List Proto) where
  inner_every : (ms : List Module) (base : ℕ) → HasAt code base (inner_protos ms base) → Every code (inner_protos ms base)
  inner_every [] base has = tt
  inner_every (x ∷ xs) base has =
      let a : List Proto = block_protos x.body (module_scope x.names) base in
      let next : ℕ = base + block_functions x.body in
      every_join code a (inner_protos xs next) (block_every code x.body (module_scope x.names) base (has_front code base a (inner_protos xs next) has))
      (inner_every xs next (has_next code base next a (inner_protos xs next) (ap (λ z. base + z) (block_count x.body (module_scope x.names) base)) has))

  main_every : (ms : List Module) (m base : ℕ) → HasAt code base (inner_protos ms base) → Every code (main_protos ms m base)
  main_every [] m base has = tt
  main_every (x ∷ xs) m base has =
      let a : List Proto = block_protos x.body (module_scope x.names) base in
      let next : ℕ = base + block_functions x.body in (
        function_formed code 0 false [] (block_slots x.body) x.body (module_place m) (module_scope x.names) base (Prim.omega arith) refl (record { free = refl; cells = tt; captures = refl }) (has_front code base a (inner_protos xs next) has),
        main_every xs (m + 1) next (has_next code base next a (inner_protos xs next) (ap (λ z. base + z) (block_count x.body (module_scope x.names) base)) has),
      )

pub well_formed : (x : Module) (xs : List Module) → IsWellFormed (program (x ∷ xs)) (length (x ∷ xs))
well_formed x xs =
    let ms : List Module = x ∷ xs in
    let count : ℕ = length ms in
    let mains : List Proto = main_protos ms 0 count in
    let inner : List Proto = inner_protos ms count in
    let code : List Proto = mains ++ inner in
    let there : HasAt code count inner = subst (λ z. HasAt code z inner) (main_count ms 0 count) (has_all inner mains) in
    let every : Every code code = every_join code mains inner (main_every code ms 0 count there) (inner_every code ms count there) in
    let long : length mains ≡ count = main_count ms 0 count in record {
      main = Prim.omega arith;
      enough = Prim.omega (arith, length-append mains inner, long);
      blocks = λ m q lt e. blocks_first ms 0 count inner m q lt e;
      functions = λ f q e. every_at code code f q every e;
    }
