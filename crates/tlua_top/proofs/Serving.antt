-- The run of a machine, from event to event.
use Rattle.std.proofs.Common.{◌≡◌, refl, sym, ◌∙◌, ap, subst, ℕ, zero, suc, ◌+◌, ◌-◌, List, [], ◌∷◌, ◌++◌, append_assoc, append-nil, Option, Some, None, arith}
use Rattle.std.specs.Io.KnownBytes.{Appends}
use Rattle.tl_base.specs.declared.crossing.Crossing.{Crossing}
use Rattle.lua_values.specs.declared.value.Value.{Value}
use Rattle.lua_meaning.specs.World.{World}
use Rattle.lua_meaning.specs.Programs as program
use Rattle.lua_meaning.specs.Programs.{Module, start, ended, meaning, finished, failed, spent}
use Rattle.lua_code.specs.declared.code.Code.{Code}
use Rattle.lua_code.specs.declared.code.Proto.{Proto}
use Rattle.lua_code.specs.Configurations.{running, calling, giving, raising, Next, go, stop, stuck}
use Rattle.lua_code.specs.Faithful.{IsFaithful}
use Rattle.lua_code.specs.Steps.{End, begin_turn, end_of, halts, step, result_of}
use Rattle.lua_machine.specs.declared.events.Event.TheVariants as event
use Rattle.lua_machine.specs.declared.events.Event.{Event}
use Rattle.lua_machine.specs.Machines.{Sight, Advances, Begins, showing, turns_in, error_in}
use Rattle.lua_machine.specs.Outside.{with_outside, outside}
use Rattle.lua_machine.specs.Runs.{after, output_in, writing}
use Rattle.lua_machine.proofs.Ends.{begins_alike}
use Rattle.lua_machine.proofs.Outside.{keep_outside}
use Rattle.lua_machine.proofs.Walks.{after_on}
use Rattle.tlua_top.specs.declared.serve.Over.{Over}
use Rattle.tlua_top.specs.declared.serve.Over.TheVariants as over
use Rattle.tlua_top.specs.Words.{Text}
use Rattle.tlua_top.specs.declared.status.Status.{Status}
use Rattle.tlua_top.specs.declared.status.Status.TheVariants as status
use Rattle.tlua_top.specs.Outcome.{Stopped, IsFront}
use Rattle.tlua_top.specs.Lines.{kind_lines, last_line}
use Rattle.tlua_top.specs.Defined.{budget, ran}
use Rattle.tlua_top.specs.Serving.{ComesTo, IsOver, StopsWriting, over_of, lines_after}
use Rattle.tlua_top.proofs.Endings.{appends_more}

-- ---- runs

stopped : (code : List Proto) (k : ℕ) (e : program.Ending) (w : World) → after code k (stop e w) ≡ stop e w
stopped code zero e w = refl
stopped code (suc k) e w = refl

-- some steps first change nothing of where a run stops
later : (code : List Proto) (j k : ℕ) (n : Next) (e : program.Ending) (w : World) → after code k n ≡ stop e w → after code k (after code j n) ≡ stop e w
later code j k n e w h =
    let flip : j + k ≡ k + j = omega arith in
    sym (after_on code j k n) ∙ ap (λ i. after code i n) flip ∙ after_on code k j n ∙ ap (after code j) h ∙ stopped code j e w

same_bytes : (a b c : Text) → c ≡ [] → a ++ (c ++ b) ≡ (a ++ b) ++ c
same_bytes a b c e = rw e (sym (append-nil (a ++ b)))

-- a text that was written joins what was written before
joined : (out text input : Text) (n : Next) → output_in n ≡ [] → with_outside out input (writing text n) ≡ with_outside (out ++ text) input n
joined out text input (go (running f levels w ks)) h = ap (λ o. go (running f levels (record w { output = o; input = input }) ks)) (same_bytes out text w.output h)
joined out text input (go (calling p v vs levels w ks)) h = ap (λ o. go (calling p v vs levels (record w { output = o; input = input }) ks)) (same_bytes out text w.output h)
joined out text input (go (giving vs levels w ks)) h = ap (λ o. go (giving vs levels (record w { output = o; input = input }) ks)) (same_bytes out text w.output h)
joined out text input (go (raising v levels w ks)) h = ap (λ o. go (raising v levels (record w { output = o; input = input }) ks)) (same_bytes out text w.output h)
joined out text input (stop e w) h = ap (λ o. stop e (record w { output = o; input = input })) (same_bytes out text w.output h)
joined out text input stuck h = refl

-- ---- from event to event

module _ (old new : Sight) (written input : Text) (whole : program.Result) where
  -- where the run is when something was told
  moved : (e : Event) (a : Advances old new e) (c : ComesTo written input old whole) → after new.code.functions c.steps (with_outside written input (showing e new.next)) ≡ stop c.ending c.world
  moved e a c =
      let code = old.code.functions in
      let there : after code a.steps (with_outside written input old.next) ≡ with_outside written input (showing e new.next) = keep_outside written input code a.steps old.next ∙ ap (with_outside written input) a.comes in
      let on = later code a.steps c.steps (with_outside written input old.next) c.ending c.world c.comes in
      let here : after code c.steps (with_outside written input (showing e new.next)) ≡ stop c.ending c.world = ap (after code c.steps) (sym there) ∙ on in
      subst (λ (k : Code). after k.functions c.steps (with_outside written input (showing e new.next)) ≡ stop c.ending c.world) (sym a.code) here

  pub writes_on : (text : Text) → Advances old new (event.Output text) → ComesTo written input old whole → ComesTo (written ++ text) input new whole
  writes_on text a c = record {
    steps = c.steps;
    ending = c.ending;
    world = c.world;
    comes = ap (after new.code.functions c.steps) (sym (joined written text input new.next a.bare)) ∙ moved (event.Output text) a c;
    is = c.is;
  }

  -- a run that stopped has this result
  over_at : (o : Over) (w : World) → new.next ≡ stop (over_of o) w → w.output ≡ [] → new.turns ≡ w.turns → new.error ≡ w.error
      → (c : ComesTo written input old whole) → after new.code.functions c.steps (with_outside written input new.next) ≡ stop c.ending c.world → IsOver whole written o new
  over_at o w is bare turns error c h =
      let here : stop (over_of o) (outside written input w) ≡ stop c.ending c.world =
      sym (stopped new.code.functions c.steps (over_of o) (outside written input w)) ∙ ap (λ n. after new.code.functions c.steps (with_outside written input n)) (sym is) ∙ h in
      let ends : over_of o ≡ c.ending = cc in
      let worlds : outside written input w ≡ c.world = cc in
      let result : whole ≡ ended budget (over_of o) (outside written input w) = c.is ∙ ap (λ e. ended budget e c.world) (sym ends) ∙ ap (ended budget (over_of o)) (sym worlds) in
      record {
        output = ap (λ (r : program.Result). r.output) result ∙ ap (λ t. written ++ t) bare ∙ append-nil written;
        ending = ap (λ (r : program.Result). r.ending) result;
        turns = ap (λ (r : program.Result). r.turns) result ∙ ap (λ n. budget - n) (sym turns);
        error = ap (λ (r : program.Result). r.error) result ∙ sym error;
      }

  pub over_done : Advances old new event.Done → ComesTo written input old whole → IsOver whole written over.Done new
  over_done a c =
      let w = a.ends.0 in
      let is = a.ends.1 in
      over_at over.Done w is (sym (ap output_in is) ∙ a.bare) (a.turns ∙ ap turns_in is) (a.error ∙ ap error_in is) c (moved event.Done a c)

  pub over_raised : (v : Value) → Advances old new (event.Raised v) → ComesTo written input old whole → IsOver whole written (over.Raised v) new
  over_raised v a c =
      let w = a.ends.0 in
      let is = a.ends.1 in
      over_at (over.Raised v) w is (sym (ap output_in is) ∙ a.bare) (a.turns ∙ ap turns_in is) (a.error ∙ ap error_in is) c (moved (event.Raised v) a c)

  pub over_spent : Advances old new event.Spent → ComesTo written input old whole → IsOver whole written over.Spent new
  over_spent a c =
      let w = a.ends.0 in
      let is = a.ends.1 in
      over_at over.Spent w is (sym (ap output_in is) ∙ a.bare) (a.turns ∙ ap turns_in is) (a.error ∙ ap error_in is) c (moved event.Spent a c)

-- what was written is what the whole output begins with
begins_so : (written input : Text) (n : Next) (e : program.Ending) (w : World) → with_outside written input n ≡ stop e w → IsFront written w.output
begins_so written input (go c) e w h = let f : ⊥ = cc in absurd f
begins_so written input stuck e w h = let f : ⊥ = cc in absurd f
begins_so written input (stop d v) e w h = let worlds : outside written input v ≡ w = cc in (v.output, sym (ap (λ (x : World). x.output) worlds))

pub is_front : (m : Sight) (written input : Text) (whole : program.Result) → ComesTo written input m whole → IsFront written whole.output
is_front m written input whole c =
    let code = m.code.functions in
    let front = begins_so written input (after code c.steps m.next) c.ending c.world (sym (keep_outside written input code c.steps m.next) ∙ c.comes) in
    (front.0, ap (λ (r : program.Result). r.output) c.is ∙ front.1)

-- ---- the begin of a run

halted : (o : Option End) (whole : program.Result) → result_of budget o ≡ Some whole → (e : End) × (o ≡ Some e) × (whole ≡ ended budget e.ending e.world)
halted None whole h = let f : ⊥ = cc in absurd f
halted (Some e) whole h = (e, refl, let same : ended budget e.ending e.world ≡ whole = cc in sym same)

stops_there : (code : List Proto) (k : ℕ) (n : Next) (e : End) → end_of (halts code k) n ≡ Some e → after code k n ≡ stop e.ending e.world
stops_there code zero (go c) e h = let f : ⊥ = cc in absurd f
stops_there code (suc k) (go c) e h = stops_there code k (step code c) e h
stops_there code k (stop d w) e h = let same : ◌≡◌ {A = End} (record { ending = d; world = w }) e = cc in stopped code k d w ∙ ap (λ (x : End). stop x.ending x.world) same
stops_there code k stuck e h = let f : ⊥ = cc in absurd f

pub begins : (code : Code) (m : Module) (file input : Text) (machine : Sight) → Begins code (start (m.kind ∷ []) (file ∷ []) [] budget) 0 machine → IsFaithful (m ∷ []) code
    → ComesTo [] input machine (meaning (m ∷ []) (file ∷ []) input budget)
begins code m file input machine b faithful =
    let run = faithful (file ∷ []) input budget in
    let from = begin_turn code.functions budget (start (m.kind ∷ []) (file ∷ []) input budget) in
    let end = halted (end_of (halts code.functions run.0) from) (meaning (m ∷ []) (file ∷ []) input budget) run.1 in
    let there : after code.functions run.0 from ≡ stop end.0.ending end.0.world = stops_there code.functions run.0 from end.0 end.1 in
    let alike : from ≡ with_outside [] input (begin_turn code.functions budget (start (m.kind ∷ []) (file ∷ []) [] budget)) = begins_alike code.functions (m.kind ∷ []) (file ∷ []) input budget in
    let here : from ≡ with_outside [] input machine.next = alike ∙ ap (with_outside [] input) (sym b.next) in
    record {
      steps = run.0;
      ending = end.0.ending;
      world = end.0.world;
      comes = ap (λ (k : Code). after k.functions run.0 (with_outside [] input machine.next)) b.code_is ∙ ap (after code.functions run.0) (sym here) ∙ there;
      is = end.2;
    }

-- a list into which one thing was pushed
pub one_item : {A : Type 0} (xs ys : List A) (x : A) → xs ≡ [] → ys ≡ xs ++ x ∷ [] → ys ≡ x ∷ []
one_item xs ys x none pushed = pushed ∙ ap (λ l. l ++ x ∷ []) none

-- ---- what was written, over what the output tells

module _ (old new : Sight) (out input text piece : Text) (whole : program.Result) (o0 o1 o2 : Option Text) where
  -- a text was written
  pub writes : piece ≡ text → Appends o0 o1 out → Appends o1 o2 piece → Advances old new (event.Output text) → ComesTo out input old whole → (x : Text) × Appends o0 o2 x × ComesTo x input new whole
  writes is before wrote a c = (out ++ text, appends_more o0 o1 o2 out text before (subst (Appends o1 o2) is wrote), writes_on old new out input whole text a c)

  -- a front of a text was written
  pub cuts : piece ≡ text → Appends o0 o1 out → (front : Text) × IsFront front piece × Appends o1 o2 front → Advances old new (event.Output text) → ComesTo out input old whole
      → (x : Text) × IsFront x whole.output × Appends o0 o2 x
  cuts is before wrote a c =
      let front = wrote.0 in
      let all = is_front new (out ++ text) input whole (writes_on old new out input whole text a c) in
      let inside : IsFront front text = subst (IsFront front) is wrote.1 in
      let split : whole.output ≡ out ++ (front ++ (inside.0 ++ all.0)) =
      all.1 ∙ ap (λ t. (out ++ t) ++ all.0) inside.1 ∙ append_assoc out (front ++ inside.0) all.0 ∙ ap (λ t. out ++ t) (append_assoc front inside.0 all.0) in
      (out ++ front, (inside.0 ++ all.0, split ∙ sym (append_assoc out front (inside.0 ++ all.0))), appends_more o0 o1 o2 out front before wrote.2)

-- nothing more was written
pub stays : (m : Sight) (out input : Text) (whole : program.Result) (o0 o1 : Option Text) → Appends o0 o1 out → ComesTo out input m whole → (x : Text) × IsFront x whole.output × Appends o0 o1 x
stays m out input whole o0 o1 before c = (out, is_front m out input whole c, before)

-- ---- the report behind a run

pub after_is : (file given out : Text) (list : List Crossing) (whole : program.Result) (o : Over) (m : Sight) → given ≡ file → IsOver whole out o m → lines_after given o m ≡ (ran file list whole).after
after_is file given out list whole o m is h =
    ap (λ f. lines_after f o m) is ∙ ap (λ e. kind_lines file e ++ last_line (over_of o) (budget - m.turns)) (sym h.error) ∙ ap (λ d. kind_lines file whole.error ++ last_line d (budget - m.turns)) (sym h.ending)
    ∙ ap (λ n. kind_lines file whole.error ++ last_line whole.ending n) (sym h.turns)

-- a run stops for the output or for memory alone
pub stops_call : (result : Status) → StopsWriting result → Stopped result
stops_call status.WriteFault h = tt
stops_call status.NoMemory h = tt
stops_call status.Done h = absurd h
stops_call status.LuaError h = absurd h
stops_call status.Usage h = absurd h
stops_call status.Refused h = absurd h
stops_call status.ReadFault h = absurd h
stops_call status.TurnsSpent h = absurd h
