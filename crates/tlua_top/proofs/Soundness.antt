-- A defined report's `kind` line names a crossing of its list.
use Rattle.std.proofs.Common.{◌≡◌, ℕ, false, List, [], ◌∷◌, ◌++◌, Option, Some, None, Ok, Err, refl, sym, ap, subst}
use Rattle.std.specs.Prelude.{codes, IfSome}
use Rattle.tl_base.specs.declared.place.ModuleKind.{ModuleKind}
use Rattle.tl_base.specs.declared.crossing.Crossing.{Crossing}
use Rattle.tl_base.specs.declared.refusal.Refusal.{Refusal}
use Rattle.tl_edge.specs.declared.outside.FileBytes.{FileBytes}
use Rattle.tl_edge.specs.Files.{bytes_of}
use Rattle.lua_tree.specs.declared.syntax.Chunk.{Chunk}
use Rattle.lua_tree.specs.declared.scoped.Scoped.{Scoped}
use Rattle.lua_tree.specs.Scopes.Resolved.{resolution}
use Rattle.lua_tree.specs.Tree.{Block}
use Rattle.lua_tree.specs.View.{block_of}
use Rattle.lua_lexer.specs.declared.token.Token.{Token}
use Rattle.lua_lexer.specs.Tokens.{Lexed, Refused}
use Rattle.lua_parser.specs.Words.{words_of}
use Rattle.lua_parser.specs.Parsing.{IsModule, IsRefused as IsRefusedWord}
use Rattle.tl_rules.specs.Orders.{plain_order, loose_order}
use Rattle.tl_rules.proofs.Decided.{are_orders}
use Rattle.lua_meaning.specs.World.{KindError}
use Rattle.lua_meaning.specs.Programs.{Ending as RunEnding, finished, failed, spent, Module}
use Rattle.tl_sound.specs.Laws as law
use Rattle.tl_sound.specs.Laws.{IsAfterOneOf}
use Rattle.tl_sound.proofs.Sound.{errors_named}
use Rattle.tlua_top.specs.declared.status.Status.{Status}
use Rattle.tlua_top.specs.Words.{Text, file_to_run}
use Rattle.tlua_top.specs.Outcome.{Ending, only_reports}
use Rattle.tlua_top.specs.Lines.{crossing_lines, kind_line, kind_lines, last_line}
use Rattle.tlua_top.specs.Sound.{begins_with, IsSound}
use Rattle.tlua_top.specs.Phases.{refused, IsMisnamed, HasKind, IsUnread, IsRead, IsNotBuilt, IsBuilt, IsFaulty, IsMarked}
use Rattle.tlua_top.specs.Defined.{budget, run_of, status_of, marked_module, OfRun, OfScoped, OfTree, OfTokens, OfSource, OfBytes, OfFile, OfWords, Defined}
use Rattle.tlua_top.proofs.Phases.{phase_all}

only_sound : (status : Status) (line : Text) → IsSound (only_reports status line)
only_sound status line h = let f : ⊥ = cc in absurd f

last_not_kind : (o : RunEnding) (n : ℕ) → begins_with (codes "kind ") (last_line o n) ≡ false
last_not_kind finished n = refl
last_not_kind (failed v) n = refl
last_not_kind spent n = refl

module _ (file output : Text) (status : Status) (list : List Crossing) (o : RunEnding) (n : ℕ) where
  abbrev told : Option KindError → Ending
  told e = record { status = status; output = output; ahead = crossing_lines file list; after = kind_lines file e ++ last_line o n }

  told_sound : (e : Option KindError) → IfSome e (IsAfterOneOf list) → IsSound (told e)
  told_sound None h begins = let f : ⊥ = cc (last_not_kind o n) in absurd f
  told_sound (Some e) h begins = record {
    file = file;
    place = e.place;
    crossing = h.0;
    rest = last_line o n;
    list = list;
    named = ap (λ (a : Option Crossing). kind_line file (record { place = e.place; after = a }) ++ last_line o n) h.1;
    printed = refl;
    listed = h.2;
  }

-- the rules take a module, and its marked form runs
run_sound : (file input : Text) (s : Scoped) (marked : Block) → IsMarked s marked → (x : Ending) → OfRun file input (marked_module s marked) x → IsSound x
run_sound file input s marked typed x h =
    let m : Module = marked_module s (block_of s.chunk.body) in
    let m' : Module = marked_module s marked in
    let r = run_of file input m' in
    let takes : law.IsMarked plain_order loose_order m m' = record { orders = are_orders; kind = refl; names = refl; body = typed } in
    let named = errors_named plain_order loose_order m m' (file ∷ []) input budget h.0 takes h.1 in
    subst IsSound (sym h.2) (told_sound file r.output (status_of r.ending) h.0 r.ending r.turns r.error named)

module _ (file input : Text) where
  refused_sound : (r : Refusal) → IsSound (refused file r)
  refused_sound r = only_sound _ _

  scoped_sound : (s : Scoped) (x : Ending) → OfScoped file input s x → IsSound x
  scoped_sound s =
      phase_all file (IsNotBuilt s) (IsBuilt s) _ IsSound refused_sound (λ u b. phase_all file (IsFaulty s) (IsMarked s) _ IsSound refused_sound (λ marked m. run_sound file input s marked m))

  tree_sound : (tree : Chunk) (x : Ending) → OfTree file input tree x → IsSound x
  tree_sound tree = phase_all file (λ r. resolution tree ≡ Err r) (λ s. resolution tree ≡ Ok s) (OfScoped file input) IsSound refused_sound (λ s h. scoped_sound s)

  tokens_sound : (kind : ModuleKind) (source : Text) (tokens : List Token) (x : Ending) → OfTokens file input kind source tokens x → IsSound x
  tokens_sound kind source tokens =
      phase_all file (IsRefusedWord kind (words_of source tokens)) (IsModule 0 kind (words_of source tokens)) (OfTree file input) IsSound refused_sound (λ tree h. tree_sound tree)

  source_sound : (kind : ModuleKind) (source : Text) (x : Ending) → OfSource file input kind source x → IsSound x
  source_sound kind source = phase_all file (Refused 0 source) (Lexed 0 source) (OfTokens file input kind source) IsSound refused_sound (λ tokens h. tokens_sound kind source tokens)

  bytes_sound : (found : Option Text) (kind : ModuleKind) (x : Ending) → OfBytes file input found kind x → IsSound x
  bytes_sound found kind = phase_all file (IsUnread found) (IsRead found) (OfSource file input kind) IsSound refused_sound (λ source h. source_sound kind source)

  file_sound : (files : List FileBytes) (x : Ending) → OfFile file files input x → IsSound x
  file_sound files = phase_all file (IsMisnamed file) (HasKind file) (OfBytes file input (bytes_of files file)) IsSound refused_sound (λ kind h. bytes_sound (bytes_of files file) kind)

words_sound : (o : Option Text) (files : List FileBytes) (input : Text) (x : Ending) → OfWords o files input x → IsSound x
words_sound None files input x h = subst IsSound (sym h) (only_sound _ _)
words_sound (Some file) files input x h = file_sound file input files x h

pub defined_sound : (words : List Text) (files : List FileBytes) (input : Text) (x : Ending) → Defined words files input x → IsSound x
defined_sound words files input x h = words_sound (file_to_run words) files input x h
