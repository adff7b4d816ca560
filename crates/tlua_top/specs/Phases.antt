-- The phases that a file goes through before its program runs. Each refuses, or gives what the next one begins with.
use Rattle.std.specs.Prelude.{◌≡◌, ◌⊎◌, ℕ, ◌<◌, ◌≤◌, Bool, true, false, length, Option, Some, None}
use Rattle.tl_base.specs.declared.place.ModuleKind.{ModuleKind}
use Rattle.tl_base.specs.declared.refusal.Refusal.{Refusal}
use Rattle.tl_base.specs.declared.refusal.RefusalCode.{RefusalCode}
use Rattle.tl_base.specs.declared.refusal.RefusalCode.TheVariants as code
use Rattle.lua_tree.specs.declared.scoped.Scoped.{Scoped}
use Rattle.lua_tree.specs.Tree.{Block}
use Rattle.lua_tree.specs.View.{block_of}
use Rattle.built_forms.specs.Forms.{is_built}
use Rattle.tl_rules.specs.Checked.{Checked, fine, fault}
use Rattle.tl_rules.specs.Orders.{plain_order, loose_order}
use Rattle.tl_rules.specs.Statements.{check_module}
use Rattle.tlua_top.specs.declared.status.Status.TheVariants as status
use Rattle.tlua_top.specs.Words.{Text, kind_of_word}
use Rattle.tlua_top.specs.Lines.{refusal_line}
use Rattle.tlua_top.specs.Outcome.{Ending, only_reports}

-- a refused program isn't run, and its report is one line
abbrev pub refused : Text → Refusal → Ending
refused file r = only_reports status.Refused (refusal_line file r)

-- A phase of a file: it refuses, and the call ends so; or it gives what the phases behind it begin with.
abbrev pub phase : {A : Type 0} → Text → (Refusal → Type 0) → (A → Type 0) → (A → Ending → Type 0) → Ending → Type 0
phase {A = A} file Refuses Gives behind ending = ((r : Refusal) × Refuses r × (ending ≡ refused file r)) ⊎ ((a : A) × Gives a × behind a ending)

-- a refusal of the file as a whole
abbrev pub of_file : RefusalCode → Refusal
of_file c = record { code = c; pos = record { «module» = 0; line = 1; column = 1 } }

-- ---- the file's word

abbrev pub IsMisnamed : Text → Refusal → Type 0
IsMisnamed file r = (kind_of_word file ≡ None) × (r ≡ of_file code.X1)

abbrev pub HasKind : Text → ModuleKind → Type 0
HasKind file kind = kind_of_word file ≡ Some kind

-- ---- the file's bytes

-- the greatest length of a file
abbrev pub longest : ℕ
longest = 1048576

-- the file is missing, or too long
abbrev pub IsUnread : Option Text → Refusal → Type 0
IsUnread None r = r ≡ of_file code.G6
IsUnread (Some bytes) r = (longest < length bytes) × (r ≡ of_file code.L5)

abbrev pub IsRead : Option Text → Text → Type 0
IsRead found source = (found ≡ Some source) × (length source ≤ longest)

-- ---- what isn't built yet

abbrev pub built : Scoped → Bool
built s = is_built s.chunk.kind s.uses (block_of s.chunk.body)

abbrev pub IsNotBuilt : Scoped → Refusal → Type 0
IsNotBuilt s r = (built s ≡ false) × (r ≡ of_file code.X1)

abbrev pub IsBuilt : Scoped → Unit {0} → Type 0
IsBuilt s u = built s ≡ true

-- ---- types

-- what the typing rules give, with the tests that decide the two orders
abbrev pub typing : Scoped → Checked Block
typing s = check_module s.uses plain_order loose_order s.chunk.kind (block_of s.chunk.body)

abbrev pub IsFaulty : Scoped → Refusal → Type 0
IsFaulty s r = typing s ≡ fault r.code r.pos

abbrev pub IsMarked : Scoped → Block → Type 0
IsMarked s marked = typing s ≡ fine marked
