-- A run that has ended stays as it ended, however many steps more it is given.
use Rattle.std.proofs.Common.{◌≡◌, refl, ap, sym, subst, ◌∙◌, ℕ, zero, suc, ◌+◌, List, Option, Some, None, arith}
use Rattle.tl_base.specs.declared.place.ModuleKind.{ModuleKind}
use Rattle.lua_meaning.specs.Programs.{Result, start}
use Rattle.lua_code.specs.declared.code.Code.{Code}
use Rattle.lua_code.specs.declared.code.Proto.{Proto}
use Rattle.lua_code.specs.Configurations.{Config, Next, go, stop, stuck}
use Rattle.lua_code.specs.Steps.{End, end_of, halts, step, begin_turn, result_of, run}

none_is_not_some : {A B : Type 0} (a : A) → None ≡ Some a → B
none_is_not_some a e = absurd (let f : None ≡ Some a = e in Prim.cc)

end_more : (code : List Proto) (n k : ℕ) → ((c : Config) (e : End) → halts code n c ≡ Some e → halts code (n + k) c ≡ Some e)
    → (x : Next) (e : End) → end_of (halts code n) x ≡ Some e → end_of (halts code (n + k)) x ≡ Some e
end_more code n k more (go d) e h = more d e h
end_more code n k more (stop en w) e h = h
end_more code n k more stuck e h = none_is_not_some e h

more_steps : (code : List Proto) (n k : ℕ) (c : Config) (e : End) → halts code n c ≡ Some e → halts code (n + k) c ≡ Some e
more_steps code zero k c e h = none_is_not_some e h
more_steps code (suc n) k c e h =
    let next : suc n + k ≡ suc (n + k) = Prim.omega arith in
    subst (λ m. halts code m c ≡ Some e) (sym next) (end_more code n k (λ d f. more_steps code n k d f) (step code c) e h)

ended_more : (code : List Proto) (turns n k : ℕ) (x : Next) (r : Result) → result_of turns (end_of (halts code n) x) ≡ Some r → result_of turns (end_of (halts code (n + k)) x) ≡ Some r
ended_more code turns n k x r h = go_on (end_of (halts code n) x) refl h
  where
    go_on : (o : Option End) → end_of (halts code n) x ≡ o → result_of turns o ≡ Some r → result_of turns (end_of (halts code (n + k)) x) ≡ Some r
    go_on None e q = none_is_not_some r q
    go_on (Some end) e q = ap (result_of turns) (end_more code n k (λ d f. more_steps code n k d f) x end e) ∙ q

pub runs_on : (code : Code) (kinds : List ModuleKind) (words : List (List ℕ)) (input : List ℕ) (turns n k : ℕ) (r : Result)
    → run code kinds words input turns n ≡ Some r → run code kinds words input turns (n + k) ≡ Some r
runs_on code kinds words input turns n k r h = ended_more code.functions turns n k (begin_turn code.functions turns (start kinds words input turns)) r h

some_inverse : {A : Type 0} (a b : A) → Some a ≡ Some b → a ≡ b
some_inverse a b e = let f : Some a ≡ Some b = e in Prim.cc

pub one_end : (code : Code) (kinds : List ModuleKind) (words : List (List ℕ)) (input : List ℕ) (turns n m : ℕ) (r q : Result)
    → run code kinds words input turns n ≡ Some r → run code kinds words input turns m ≡ Some q → r ≡ q
one_end code kinds words input turns n m r q h k =
    let flip : n + m ≡ m + n = Prim.omega arith in
    some_inverse r q (sym (runs_on code kinds words input turns n m r h) ∙ ap (run code kinds words input turns) flip ∙ runs_on code kinds words input turns m n q k)
