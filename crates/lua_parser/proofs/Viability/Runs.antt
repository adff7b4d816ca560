-- What a run of the machine says of the words: a tree that they spell, or the first word with which no spelling goes on.
use Rattle.std.proofs.Common.{◌≡◌, [], ◌∷◌, ◌++◌, Result, Ok, Err, refl, sym, subst, append_assoc}
use Rattle.tl_base.specs.declared.place.ModuleKind.{ModuleKind}
use Rattle.lua_tree.specs.declared.syntax.Block.{Block}
use Rattle.lua_parser.specs.Words.{Word, Words, marked, named, name_at}
use Rattle.lua_parser.specs.Grammar.Syntax.{SpellsChunk}
use Rattle.lua_parser.specs.Grammar.Fault.{IsViable}
use Rattle.lua_parser.specs.Machine.Plan.{Plan, done, want, want_name, read, Reply, stuck, ends, takes}
use Rattle.lua_parser.specs.Machine.Steps.{step}
use Rattle.lua_parser.specs.Machine.Run.{meet, run, module_plan}
use Rattle.lua_parser.proofs.Viability.Means.{Ensures}
use Rattle.lua_parser.proofs.Viability.Plans.{Meets, ensures_map, meets_if, meets_name, meets_stuck, meets_ends, meets_takes, meets_read, meets_taken}
use Rattle.lua_parser.proofs.Viability.Stats.{meets}
use Rattle.lua_parser.proofs.Viability.Closing.{closes, anything}

module _ (kind : ModuleKind) where
  -- what a plan ensures it still ensures behind a word
  pub meet_keeps : {A : Type 0} (G : A → Words → Type 0) (p : Plan A) (x : Word) → Ensures kind p G → Meets kind G x (meet kind p x)
  meet_keeps G (done a) x g = meets_ends kind G x a g
  meet_keeps G (want m k) x g = meets_if kind G m x.pos x.kind _ _ (g x.pos) (meets_stuck kind G x)
  meet_keeps G (want_name k) x g = meets_name kind G x.pos x.kind _ _ (λ n. meets_takes kind G _ _ (g (name_at x.pos n))) (meets_stuck kind G x)
  meet_keeps G (read j k) x g = meets_read kind G x j (step kind j x.pos x.kind) (λ a. meet kind (k a) x) k (meets kind j x.pos x.kind) g (λ a f. meet_keeps G (k a) x f)

  -- a plan can be brought to its end
  pub can_end : {A : Type 0} (G : A → Words → Type 0) (p : Plan A) → Ensures kind p G → (v : A) × (ts : Words) × G v ts
  can_end G (done a) g = (a, [], g)
  can_end G (want m k) g = let r = can_end (λ v ts. G v (marked m (record { «module» = 0; line = 0; column = 0 }) ∷ ts)) (k (record { «module» = 0; line = 0; column = 0 })) (g (record { «module» = 0; line = 0; column = 0 })) in (r.0, _, r.2)
  can_end G (want_name k) g = let r = can_end (λ v ts. G v (named anything ∷ ts)) (k anything) (g anything) in (r.0, _, r.2)
  can_end G (read j k) g = let c = closes kind j in (let r = can_end (λ v ts. G v (c.1 ++ ts)) (k c.0) (g c.0 c.1 c.2) in (r.0, _, r.2))

  module_ensures : Ensures kind module_plan (λ b ts. SpellsChunk kind b ts)
  module_ensures d ts x z = SpellsChunk.chunk z x.0

  -- what a run that begins behind some words tells of all of them
  abbrev pub Outcome : Words → Result Block Words → Type 0
  Outcome all (Ok b) = SpellsChunk kind b all
  Outcome all (Err rest) = (front : Words) × (all ≡ front ++ rest) × IsViable kind front

  viable : (front : Words) (p : Plan Block) → Ensures kind p (λ b ts. SpellsChunk kind b (front ++ ts)) → IsViable kind front
  viable front p g = let r = can_end (λ b ts. SpellsChunk kind b (front ++ ts)) p g in (r.1, r.0, r.2)

  run_outcome : (front : Words) (p : Plan Block) (ts : Words) → Ensures kind p (λ b us. SpellsChunk kind b (front ++ us)) → Outcome (front ++ ts) (run kind p ts)
  run_outcome front (done b) [] g = g
  run_outcome front (want m k) [] g = (front, refl, viable front (want m k) g)
  run_outcome front (want_name k) [] g = (front, refl, viable front (want_name k) g)
  run_outcome front (read j k) [] g = (front, refl, viable front (read j k) g)
  run_outcome front p (x ∷ ts) g = go (λ q f. run_outcome (front ++ x ∷ []) q ts f) (meet kind p x) refl
    where
      stops : Outcome (front ++ x ∷ ts) (Err (x ∷ ts))
      stops = (front, refl, viable front p g)

      go : ((q : Plan Block) → Ensures kind q (λ b us. SpellsChunk kind b ((front ++ x ∷ []) ++ us)) → Outcome ((front ++ x ∷ []) ++ ts) (run kind q ts)) → (r : Reply Block) → meet kind p x ≡ r → Outcome (front ++ x ∷ ts) (elim r as (λ y. Result Block Words) [ stuck ↦ Err (x ∷ ts) | ends a ↦ Err (x ∷ ts) | takes q ↦ run kind q ts ])
      go rec stuck e = stops
      go rec (ends a) e = stops
      go rec (takes q) e =
          let f = meets_taken kind (λ b us. SpellsChunk kind b (front ++ us)) x (meet kind p x) q e (meet_keeps (λ b us. SpellsChunk kind b (front ++ us)) p x g) in
          subst (λ z. Outcome z (run kind q ts)) (append_assoc front (x ∷ []) ts) (rec q (ensures_map kind (λ b us. SpellsChunk kind b (front ++ x ∷ us)) (λ b us. SpellsChunk kind b ((front ++ x ∷ []) ++ us)) q (λ b us. subst (SpellsChunk kind b) (sym (append_assoc front (x ∷ []) us))) f))

  pub module_outcome : (all : Words) → Outcome all (run kind module_plan all)
  module_outcome all = run_outcome [] module_plan all module_ensures
