-- Runs one behind the other, with what is noted of them.
use Rattle.std.proofs.Common.{◌≡◌, refl, sym, ap, ◌∙◌, ℕ, zero, suc, ◌+◌, Bool, true, false, cond, nat_lt, List, [], ◌∷◌, ◌++◌, length, map, take, arith}
use Rattle.lua_code.specs.declared.code.Proto.{Proto}
use Rattle.lua_code.specs.Configurations.{Next, running}
use Rattle.lua_code.specs.Steps.{begun_in}
use Rattle.lua_machine.specs.declared.state.State.{State}
use Rattle.lua_machine.specs.declared.tracing.TraceStep.{TraceStep}
use Rattle.lua_machine.specs.declared.pacing.Pace.{Pace}
use Rattle.lua_machine.specs.declared.pacing.Pace.TheVariants as pace
use Rattle.lua_machine.specs.Runs.{after, begun_from, Walk, Paces, RunsTo, RunsOn, IsOutput, output_in, at_work, next_of_pace, noted, noted_all, step_of}
use Rattle.lua_machine.proofs.Walks.{after_on, begun_on}

noted_on : (limit : ℕ) (steps : List TraceStep) (xs ys : List (ℕ × ℕ)) → noted_all limit steps (xs ++ ys) ≡ noted_all limit (noted_all limit steps xs) ys
noted_on limit steps [] ys = refl
noted_on limit steps (x ∷ xs) ys = noted_on limit (noted limit steps (step_of x)) xs ys

module _ (code : List Proto) (here there : Next) (limit l : ℕ) (before now next : List TraceStep) (so_far : RunsOn code here there limit before now) (same : l ≡ limit)
    (p : Pace) (new : State) (seen : List (ℕ × ℕ)) (paces : Paces code there p new seen) (traced : next ≡ noted_all l now seen) where
  reached : after code (so_far.steps + paces.steps) here ≡ next_of_pace p new
  reached = after_on code so_far.steps paces.steps here ∙ (ap (after code paces.steps) so_far.comes ∙ paces.walk.comes)

  noted_then : next ≡ noted_all limit before (begun_from code (so_far.steps + paces.steps) here)
  noted_then =
      traced ∙ (ap (λ k. noted_all k now seen) same ∙ (ap (λ s. noted_all limit s seen) so_far.noted
      ∙ (sym (noted_on limit before (begun_from code so_far.steps here) seen)
      ∙ ap (λ s. noted_all limit before s) (ap (λ s. begun_from code so_far.steps here ++ s) (sym (ap (begun_from code paces.steps) so_far.comes ∙ paces.walk.begun)) ∙ sym (begun_on code so_far.steps paces.steps here)))))

  pub run_to : RunsTo code here p new limit before next
  run_to = record {
    steps = so_far.steps + paces.steps;
    comes = reached;
    noted = noted_then;
    quiet = λ o. let k = paces.quiet o in let e = k.1 in
        (so_far.steps + k.0, omega (arith, e), ap output_in (after_on code so_far.steps k.0 here ∙ ap (after code k.0) so_far.comes) ∙ k.2);
    some = paces.some;
  }

  pub run_on : p ≡ pace.On → RunsOn code here (at_work new) limit before next
  run_on is = record { steps = so_far.steps + paces.steps; comes = reached ∙ ap (λ q. next_of_pace q new) is; noted = noted_then }
