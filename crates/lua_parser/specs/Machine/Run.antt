-- The reading of words by a plan, one word at a time.
use Rattle.std.specs.Prelude.{true, false, [], ◌∷◌, Result, Ok, Err, if◌then◌else◌}
use Rattle.tl_base.specs.declared.place.ModuleKind.{ModuleKind}
use Rattle.lua_tree.specs.declared.syntax.Block.{Block}
use Rattle.lua_parser.specs.Words.{Word, Words, finish, name_at}
use Rattle.lua_parser.specs.Grammar.Syntax.{block}
use Rattle.lua_parser.specs.Machine.Plan.{Item, Plan, done, want, want_name, read, Reply, stuck, ends, takes, onward}
use Rattle.lua_parser.specs.Machine.Steps.{is_mark, if_name, step}

-- what a plan does at a word
abbrev pub meet : {A : Type 0} → ModuleKind → Plan A → Word → Reply A
meet kind (done a) x = ends a
meet kind (want m k) x = if is_mark m x.kind then takes (k x.pos) else stuck
meet kind (want_name k) x = if_name x.kind (λ t. takes (k (name_at x.pos t))) stuck
meet kind (read j k) x = elim (step kind j x.pos x.kind) [ stuck ↦ stuck | ends a ↦ meet kind (k a) x | takes p ↦ takes (onward p k) ]

-- what all words have been read for, or the words from the first on that the plan can't take
abbrev pub finished : {A : Type 0} → Plan A → Result A Words
finished (done a) = Ok a
finished p = Err []

abbrev pub run : {A : Type 0} → ModuleKind → Plan A → Words → Result A Words
run kind p [] = finished p
run kind p (x ∷ ts) = elim (meet kind p x) [ stuck ↦ Err (x ∷ ts) | ends a ↦ Err (x ∷ ts) | takes q ↦ run kind q ts ]

-- a whole module
abbrev pub module_plan : Plan Block
module_plan = read (Item.a_block true 0 false) λ d. want finish λ _. done (block d.0 d.1)
