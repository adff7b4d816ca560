-- What an event tells of a machine.
use Rattle.std.proofs.Common.{◌≡◌, refl, sym, ap, ◌∙◌, ℕ, zero, suc, ◌+◌, ◌-◌, ◌<◌, ◌≤◌, Bool, true, false, cond, nat_lt, List, [], ◌∷◌, ◌++◌, append_assoc, append-nil, length, map, take, length-append, arith, rules}
use Rattle.std.proofs.lemmas.Grind.{common_steps}
use Rattle.std.proofs.lemmas.Bool.{ltb-true, ltb-false}
use Rattle.std.proofs.lemmas.List.{length-take, take-append-le}
use Rattle.lua_code.specs.declared.code.Proto.{Proto}
use Rattle.lua_code.specs.Configurations.{Next}
use Rattle.lua_machine.specs.declared.state.State.{State}
use Rattle.lua_machine.specs.declared.tracing.TraceStep.{TraceStep}
use Rattle.lua_machine.specs.declared.events.Event.{Event}
use Rattle.lua_machine.specs.declared.events.Status.{Status}
use Rattle.lua_machine.specs.declared.events.Status.TheVariants as status
use Rattle.lua_machine.specs.Runs.{noted, noted_all, step_of, begun_from, output_in}
use Rattle.lua_machine.specs.Machines.{Sight, room, Tells, Advances, Settled, next_at, turns_in, mark_in, error_in}

-- ---- what is noted

take_none : (limit : ℕ) → ◌≡◌ {A = List TraceStep} (take limit []) []
take_none zero = refl
take_none (suc n) = refl

take_all : (xs : List TraceStep) (n : ℕ) → length xs ≤ n → take n xs ≡ xs
take_all [] n h = take_none n
take_all (x ∷ xs) zero h = absurd (omega arith)
take_all (x ∷ xs) (suc n) h = ap (λ zs. x ∷ zs) (take_all xs n (omega arith))

noted_step : (limit : ℕ) (ys : List TraceStep) (y : TraceStep) → noted limit (take limit ys) y ≡ take limit (ys ++ y ∷ [])
noted_step limit ys y = by_test (nat_lt (length (take limit ys)) limit) refl
  where
    by_test : (b : Bool) → nat_lt (length (take limit ys)) limit ≡ b → cond b (take limit ys ++ y ∷ []) (take limit ys) ≡ take limit (ys ++ y ∷ [])
    by_test true e =
        let less : length (take limit ys) < limit = ltb-true (length (take limit ys)) limit e in
        let short : length ys < limit = omega (arith, length-take limit ys) in
        let few : length (ys ++ y ∷ []) ≤ limit = omega (arith, length-append ys (y ∷ [])) in
        ap (λ zs. zs ++ y ∷ []) (take_all ys limit (omega arith)) ∙ sym (take_all (ys ++ y ∷ []) limit few)
    by_test false e =
        let full : limit ≤ length (take limit ys) = ltb-false (length (take limit ys)) limit e in
        let long : limit ≤ length ys = omega (arith, length-take limit ys) in
        sym (take-append-le limit ys (y ∷ []) long)

noted_take : (limit : ℕ) (ys : List TraceStep) (xs : List (ℕ × ℕ)) → noted_all limit (take limit ys) xs ≡ take limit (ys ++ map step_of xs)
noted_take limit ys [] = ap (λ zs. take limit zs) (sym (append-nil ys))
noted_take limit ys (x ∷ xs) =
    ap (λ zs. noted_all limit zs xs) (noted_step limit ys (step_of x)) ∙ (noted_take limit (ys ++ step_of x ∷ []) xs
    ∙ ap (λ zs. take limit zs) (append_assoc ys (step_of x ∷ []) (map step_of xs)))

pub all_noted : (limit : ℕ) (xs : List (ℕ × ℕ)) → noted_all limit [] xs ≡ take limit (map step_of xs)
all_noted limit xs = ap (λ zs. noted_all limit zs xs) (sym (take_none limit)) ∙ noted_take limit [] xs

-- ---- where the run is

module _ (code : List Proto) (s : State) where
  pub settled_turns : (x : Status) → Settled x → turns_in (next_at code x s) ≡ s.store.turns
  settled_turns status.Fresh h = absurd h
  settled_turns status.Running h = refl
  settled_turns status.Done h = refl
  settled_turns (status.Raised v) h = refl
  settled_turns status.Spent h = refl
  settled_turns status.Stuck h = absurd h

  pub settled_mark : (x : Status) → Settled x → mark_in (next_at code x s) ≡ s.store.mark
  settled_mark status.Fresh h = absurd h
  settled_mark status.Running h = refl
  settled_mark status.Done h = refl
  settled_mark (status.Raised v) h = refl
  settled_mark status.Spent h = refl
  settled_mark status.Stuck h = absurd h

  pub settled_error : (x : Status) → Settled x → error_in (next_at code x s) ≡ s.store.error
  settled_error status.Fresh h = absurd h
  settled_error status.Running h = refl
  settled_error status.Done h = refl
  settled_error (status.Raised v) h = refl
  settled_error status.Spent h = refl
  settled_error status.Stuck h = absurd h

  pub settled_output : (x : Status) → Settled x → output_in (next_at code x s) ≡ s.store.output
  settled_output status.Fresh h = absurd h
  settled_output status.Running h = refl
  settled_output status.Done h = refl
  settled_output (status.Raised v) h = refl
  settled_output status.Spent h = refl
  settled_output status.Stuck h = absurd h

pub advances : (old new : Sight) (x : Status) (s : State) (e : Event) (limit : ℕ) (traced : List TraceStep)
    → old.lost ≡ false → new.lost ≡ false → new.code ≡ old.code → new.limit ≡ old.limit
    → new.next ≡ next_at old.code.functions x s → new.turns ≡ s.store.turns → new.mark ≡ s.store.mark → new.error ≡ s.store.error
    → Settled x → s.store.output ≡ [] → limit ≡ room old → Tells old.code.functions old.next e new.next limit traced → new.trace ≡ old.trace ++ traced
    → Advances old new e
advances old new x s e limit traced alive still code same next turns mark error settled bare is_room tells trace = record {
  alive = alive;
  still = still;
  code = code;
  limit = same;
  steps = tells.steps;
  comes = tells.comes;
  ends = tells.ends;
  quiet = tells.quiet;
  some = tells.some;
  bare = ap output_in next ∙ (settled_output old.code.functions s x settled ∙ bare);
  turns = turns ∙ (sym (settled_turns old.code.functions s x settled) ∙ ap turns_in (sym next));
  mark = mark ∙ (sym (settled_mark old.code.functions s x settled) ∙ ap mark_in (sym next));
  error = error ∙ (sym (settled_error old.code.functions s x settled) ∙ ap error_in (sym next));
  trace = trace ∙ ap (λ zs. old.trace ++ zs) (tells.noted ∙ (all_noted limit (begun_from old.code.functions tells.steps old.next)
      ∙ ap (λ k. take k (map step_of (begun_from old.code.functions tells.steps old.next))) is_room));
}
