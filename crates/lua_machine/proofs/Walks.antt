-- Steps one behind the other.
use Rattle.std.proofs.Common.{◌≡◌, refl, sym, ap, subst, ◌∙◌, ℕ, zero, suc, ◌+◌, ◌<◌, length, Bool, true, false, List, [], ◌∷◌, ◌++◌, append_assoc, append-nil, Option, Some, None, arith}
use Rattle.tl_base.specs.declared.place.Pos.{Pos}
use Rattle.lua_meaning.specs.World.{World, write}
use Rattle.lua_meaning.specs.Programs.{Ending, failed}
use Rattle.lua_values.specs.declared.value.Value.{Value}
use Rattle.lua_code.specs.declared.code.Proto.{Proto}
use Rattle.lua_code.specs.declared.code.Instr.{Instr}
use Rattle.lua_code.specs.declared.frames.Item.TheVariants as item
use Rattle.lua_code.specs.Configurations.{Frame, Level, caller, CodeClosure, Config, running, calling, giving, raising, Next, go, stop, stuck}
use Rattle.lua_code.specs.Instructions.{act}
use Rattle.lua_code.specs.Steps.{step, trace, traced_on, begun, begun_in, instruction, obey}
use Rattle.lua_machine.specs.declared.state.State.{State}
use Rattle.lua_machine.specs.declared.state.Flow.{Flow}
use Rattle.lua_machine.specs.declared.state.Flow.TheVariants as flow
use Rattle.lua_machine.specs.declared.calls.Called.{Called}
use Rattle.lua_machine.specs.declared.calls.Called.TheVariants as come
use Rattle.lua_machine.specs.declared.pacing.Pace.{Pace}
use Rattle.lua_machine.specs.declared.pacing.Pace.TheVariants as pace
use Rattle.lua_machine.specs.Frames.{Activity, with_item}
use Rattle.lua_machine.specs.Flows.{next_of, Obeys}
use Rattle.lua_machine.specs.Calls.{levels_with_caller, next_of_call}
use Rattle.lua_machine.specs.declared.tracing.TraceStep.{TraceStep}
use Rattle.lua_machine.specs.Runs.{after, begun_from, Walk, output_in, at_work, next_of_pace, noted, noted_all, IsOutput, IsTold, Paces}

module _ (code : List Proto) where
  -- ---- walks

  none_begun : (n : Next) → begun_from code zero n ≡ []
  none_begun (go c) = refl
  none_begun (stop e w) = refl
  none_begun stuck = refl

  pub walk_none : (n : Next) → Walk code zero n n []
  walk_none n = record { comes = refl; begun = none_begun n }

  pub walk_step : (c : Config) (k : ℕ) (a b : Next) (seen : List (ℕ × ℕ)) → step code c ≡ a → Walk code k a b seen → Walk code (suc k) (go c) b (begun_in code c ++ seen)
  walk_step c k a b seen e h = record {
    comes = ap (after code k) e ∙ h.comes;
    begun = ap (λ n. begun_in code c ++ traced_on (trace code k) n) e ∙ ap (λ s. begun_in code c ++ s) h.begun;
  }

  stopped : (j : ℕ) (e : Ending) (w : World) → after code j (stop e w) ≡ stop e w
  stopped zero e w = refl
  stopped (suc j) e w = refl

  stopped_begins : (j : ℕ) (e : Ending) (w : World) → begun_from code j (stop e w) ≡ []
  stopped_begins j e w = refl

  is_stuck : (j : ℕ) → after code j stuck ≡ stuck
  is_stuck zero = refl
  is_stuck (suc j) = refl

  pub after_on : (k j : ℕ) (a : Next) → after code (k + j) a ≡ after code j (after code k a)
  after_on zero j a = let e : zero + j ≡ j = omega arith in ap (λ n. after code n a) e
  after_on (suc k) j (go c) = let e : suc k + j ≡ suc (k + j) = omega arith in ap (λ n. after code n (go c)) e ∙ after_on k j (step code c)
  after_on (suc k) j (stop en w) = stopped (suc k + j) en w ∙ sym (stopped j en w)
  after_on (suc k) j stuck = is_stuck (suc k + j) ∙ sym (is_stuck j)

  pub begun_on : (k j : ℕ) (a : Next) → begun_from code (k + j) a ≡ begun_from code k a ++ begun_from code j (after code k a)
  begun_on zero j a = let e : zero + j ≡ j = omega arith in ap (λ n. begun_from code n a) e ∙ ap (λ s. s ++ begun_from code j a) (sym (none_begun a))
  begun_on (suc k) j (go c) =
      let e : suc k + j ≡ suc (k + j) = omega arith in
      ap (λ n. begun_from code n (go c)) e ∙ (ap (λ s. begun_in code c ++ s) (begun_on k j (step code c))
      ∙ sym (append_assoc (begun_in code c) (begun_from code k (step code c)) (begun_from code j (after code k (step code c)))))
  begun_on (suc k) j (stop en w) = refl
  begun_on (suc k) j stuck = refl

  pub walk_on : (k j : ℕ) (a b c : Next) (xs ys : List (ℕ × ℕ)) → Walk code k a b xs → Walk code j b c ys → Walk code (k + j) a c (xs ++ ys)
  walk_on k j a b c xs ys h g = record {
    comes = after_on k j a ∙ (ap (after code j) h.comes ∙ g.comes);
    begun = begun_on k j a ∙ (ap (λ s. s ++ begun_from code j (after code k a)) h.begun ∙ ap (λ s. xs ++ s) (ap (begun_from code j) h.comes ∙ g.begun));
  }

  -- ---- errors

  abbrev pub unwinding : List Level → ℕ
  unwinding [] = 1
  unwinding (caller f ∷ levels) = suc (unwinding levels)

  pub unwinds : (v : Value) (levels : List Level) (w : World) (ks : List CodeClosure) → Walk code (unwinding levels) (go (raising v levels w ks)) (stop (failed v) w) []
  unwinds v [] w ks = walk_step (raising v [] w ks) zero (stop (failed v) w) (stop (failed v) w) [] refl (walk_none (stop (failed v) w))
  unwinds v (caller f ∷ levels) w ks = walk_step (raising v (caller f ∷ levels) w ks) (unwinding levels) (go (raising v levels w ks)) (stop (failed v) w) [] refl (unwinds v levels w ks)

  -- ---- calls

  module _ (p : Pos) (f : Value) (vs : List Value) (levels : List Level) (w : World) (ks : List CodeClosure) (called : Called) (new : State)
      (begins : step code (calling p f vs levels w ks) ≡ next_of_call called new) where
    pub call_raises : (v : Value) → called ≡ come.Raise v → Paces code (go (calling p f vs levels w ks)) (pace.Raised v) new []
    call_raises v is = record {
      steps = suc (unwinding (levels_with_caller new));
      walk = walk_step (calling p f vs levels w ks) (unwinding (levels_with_caller new)) (go (raising v (levels_with_caller new) new.store new.closures)) (stop (failed v) new.store) []
          (begins ∙ ap (λ c. next_of_call c new) is) (unwinds v (levels_with_caller new) new.store new.closures);
      quiet = λ h. absurd h;
      some = tt {0};
    }

    module _ (frames : Activity) (pushed : frames ≡ with_item (item.Many []) new.frames) where
      pub call_gives : called ≡ come.Gives None → Paces code (go (calling p f vs levels w ks)) pace.On (record new { frames = frames }) []
      call_gives is = record {
        steps = 2;
        walk = walk_step (calling p f vs levels w ks) 1 (next_of_call (come.Gives None) new) (at_work (record new { frames = frames })) [] (begins ∙ ap (λ c. next_of_call c new) is)
            (walk_step (giving [] (levels_with_caller new) new.store new.closures) zero (at_work (record new { frames = frames })) (at_work (record new { frames = frames })) []
            (ap (λ (a : Activity). go (running a.frame a.levels new.store new.closures)) (sym pushed)) (walk_none (at_work (record new { frames = frames }))));
        quiet = λ h. absurd h;
        some = tt {0};
      }

      -- an empty text changes nothing
      pub call_writes_none : (text : List ℕ) → called ≡ come.Gives (Some text) → text ≡ [] → Paces code (go (calling p f vs levels w ks)) pace.On (record new { frames = frames }) []
      call_writes_none text is none =
          let there = at_work (record new { frames = frames }) in
          let same : write text new.store ≡ new.store = ap (λ t. write t new.store) none ∙ ap (λ o. record new.store { output = o }) (append-nil new.store.output) in record {
            steps = 2;
            walk = walk_step (calling p f vs levels w ks) 1 (next_of_call (come.Gives None) new) there []
                (begins ∙ ap (λ c. next_of_call c new) is ∙ ap (λ x. go (giving [] (levels_with_caller new) x new.closures)) same)
                (walk_step (giving [] (levels_with_caller new) new.store new.closures) zero there there []
                (ap (λ (a : Activity). go (running a.frame a.levels new.store new.closures)) (sym pushed)) (walk_none there));
            quiet = λ h. absurd h;
            some = tt {0};
          }

      pub call_writes : (text : List ℕ) → called ≡ come.Gives (Some text) → w.output ≡ [] → 0 < length text → Paces code (go (calling p f vs levels w ks)) (pace.Output text) (record new { frames = frames }) []
      call_writes text is bare long =
          let there = next_of_pace (pace.Output text) (record new { frames = frames }) in
          let written = write text new.store in record {
            steps = 2;
            walk = walk_step (calling p f vs levels w ks) 1 (next_of_call (come.Gives (Some text)) new) there [] (begins ∙ ap (λ c. next_of_call c new) is)
                (walk_step (giving [] (levels_with_caller new) written new.closures) zero there there []
                (ap (λ (a : Activity). go (running a.frame a.levels written new.closures)) (sym pushed)) (walk_none there));
            quiet = λ h. (zero, refl, bare);
            some = long;
          }

      -- what is told of a text
      pub call_tells : (text : List ℕ) → called ≡ come.Gives (Some text) → w.output ≡ [] → (q : Pace) → IsTold text q → Paces code (go (calling p f vs levels w ks)) q (record new { frames = frames }) []
      call_tells text is bare pace.On told = call_writes_none text is told
      call_tells text is bare (pace.Output t) told = call_writes t (is ∙ ap (λ x. come.Gives (Some x)) (sym told.0)) bare (subst (λ x. 0 < length x) (sym told.0) told.1)
      call_tells text is bare pace.Done told = absurd told
      call_tells text is bare (pace.Raised v) told = absurd told
      call_tells text is bare pace.Spent told = absurd told
      call_tells text is bare pace.Stuck told = absurd told

  -- ---- one instruction

  module _ (old mid : State) (i : Instr) (p : Pos) (found : Some (i, p) ≡ instruction code old.frames.frame) (came : Flow) (obeys : Obeys (act code i) p old mid came) where
    steps_to : step code (running old.frames.frame old.frames.levels old.store old.closures) ≡ next_of came mid
    steps_to = ap (λ o. obey code o old.frames.frame old.frames.levels old.store old.closures) (sym found) ∙ obeys

    raises : came ≡ flow.Raise → Paces code (at_work old) (pace.Raised mid.raised) mid (begun_in code (running old.frames.frame old.frames.levels old.store old.closures))
    raises is = record {
      steps = suc (unwinding mid.frames.levels);
      walk = subst (λ s. Walk code (suc (unwinding mid.frames.levels)) (at_work old) (stop (failed mid.raised) mid.store) s) (append-nil (begun_in code (running old.frames.frame old.frames.levels old.store old.closures)))
          (walk_step (running old.frames.frame old.frames.levels old.store old.closures) (unwinding mid.frames.levels) (go (raising mid.raised mid.frames.levels mid.store mid.closures)) (stop (failed mid.raised) mid.store) []
          (steps_to ∙ ap (λ x. next_of x mid) is) (unwinds mid.raised mid.frames.levels mid.store mid.closures));
      quiet = λ h. absurd h;
      some = tt {0};
    }

    pub paces_raise : (v : Value) → came ≡ flow.Raise → v ≡ mid.raised
        → Paces code (at_work old) (pace.Raised v) mid (begun_in code (running old.frames.frame old.frames.levels old.store old.closures))
    paces_raise v is same =
        subst (λ x. Paces code (at_work old) (pace.Raised x) mid (begun_in code (running old.frames.frame old.frames.levels old.store old.closures))) (sym same) (raises is)

  -- an instruction that leads to what something else comes to
  pub paces_next : (old : State) (i j : Instr) (p : Pos) → Some (i, p) ≡ instruction code old.frames.frame → i ≡ j → (q : Pace) (new : State)
      → Paces code (act code j p old.frames.frame old.frames.levels old.store old.closures) q new []
      → Paces code (at_work old) q new (begun_in code (running old.frames.frame old.frames.levels old.store old.closures))
  paces_next old i j p found same q new h =
      let there = act code j p old.frames.frame old.frames.levels old.store old.closures in
      let steps_to : step code (running old.frames.frame old.frames.levels old.store old.closures) ≡ there =
      ap (λ o. obey code o old.frames.frame old.frames.levels old.store old.closures) (sym found)
      ∙ ap (λ x. act code x p old.frames.frame old.frames.levels old.store old.closures) same in record {
        steps = suc h.steps;
        walk = subst (λ s. Walk code (suc h.steps) (at_work old) (next_of_pace q new) s) (append-nil (begun_in code (running old.frames.frame old.frames.levels old.store old.closures)))
            (walk_step (running old.frames.frame old.frames.levels old.store old.closures) h.steps there (next_of_pace q new) [] steps_to h.walk);
        quiet = λ o. let k = h.quiet o in let e = k.1 in (suc k.0, omega (arith, e), ap (λ n. output_in (after code k.0 n)) steps_to ∙ k.2);
        some = h.some;
      }

  -- the instruction found is the one that is noted
  pub noted_one : (limit : ℕ) (before now : List TraceStep) (f : Frame) (i : Instr) (p : Pos) → Some (i, p) ≡ instruction code f → (n m : ℕ) → n ≡ f.function → m ≡ f.at
      → now ≡ noted limit before (record { function = n; at = m }) → now ≡ noted_all limit before (begun (instruction code f) f)
  noted_one limit before now f i p found n m e g h =
      h ∙ (ap (λ k. noted limit before (record { function = k; at = m })) e ∙ (ap (λ k. noted limit before (record { function = f.function; at = k })) g
      ∙ ap (λ o. noted_all limit before (begun o f)) found))
