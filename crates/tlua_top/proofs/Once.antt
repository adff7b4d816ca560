-- A call has one defined ending at most.
use Rattle.std.proofs.Common.{◌≡◌, refl, sym, ◌∙◌, ap, true, false, Option, Some, None, Result, Ok, Err, List, length, arith}
use Rattle.tl_base.specs.declared.place.ModuleKind.{ModuleKind}
use Rattle.tl_base.specs.declared.refusal.Refusal.{Refusal}
use Rattle.tl_edge.specs.declared.outside.FileBytes.{FileBytes}
use Rattle.tl_edge.specs.Files.{bytes_of}
use Rattle.lua_tree.specs.declared.syntax.Chunk.{Chunk}
use Rattle.lua_tree.specs.declared.scoped.Scoped.{Scoped}
use Rattle.lua_tree.specs.Scopes.Resolved.{resolution}
use Rattle.lua_tree.specs.Tree.{Block}
use Rattle.lua_lexer.specs.declared.token.Token.{Token}
use Rattle.lua_lexer.specs.Tokens.{Lexed, Refused}
use Rattle.lua_lexer.proofs.Laws as lexing
use Rattle.lua_parser.specs.Words.{Words, words_of}
use Rattle.lua_parser.specs.Parsing.{IsModule, IsRefused}
use Rattle.lua_parser.proofs.Laws.{one_tree}
use Rattle.lua_parser.proofs.Parsings as parsing
use Rattle.tl_rules.specs.Checked.{Checked, fine, fault}
use Rattle.tl_rules.specs.Crossings.{block_marks}
use Rattle.tl_rules.proofs.Crossings.{list_unique}
use Rattle.lua_meaning.specs.Programs.{Module}
use Rattle.tlua_top.specs.Words.{Text, file_to_run}
use Rattle.tlua_top.specs.Outcome.{Ending}
use Rattle.tlua_top.specs.Phases.{IsMisnamed, HasKind, IsUnread, IsRead, IsNotBuilt, IsBuilt, IsFaulty, IsMarked, typing}
use Rattle.tlua_top.specs.Defined.{ran, run_of, marked_module, OfRun, OfScoped, OfTree, OfTokens, OfSource, OfBytes, OfFile, OfWords, Defined}
use Rattle.tlua_top.proofs.Phases.{phase_once}

run_once : (file input : Text) (m : Module) (x y : Ending) → OfRun file input m x → OfRun file input m y → x ≡ y
run_once file input m x y h k = h.2 ∙ ap (λ l. ran file l (run_of file input m)) (list_unique (block_marks m.body) h.0 k.0 h.1 k.1) ∙ sym k.2

-- ---- types

fault_once : (c : Checked Block) (q r : Refusal) → c ≡ fault q.code q.pos → c ≡ fault r.code r.pos → q ≡ r
fault_once c q r a b =
    let same : ◌≡◌ {A = Checked Block} (fault q.code q.pos) (fault r.code r.pos) = sym a ∙ b in
    let codes : q.code ≡ r.code = cc in
    let places : q.pos ≡ r.pos = cc in
    λ i. record { code = codes i; pos = places i }

fine_once : (c : Checked Block) (a b : Block) → c ≡ fine a → c ≡ fine b → a ≡ b
fine_once c a b p q = let same : ◌≡◌ {A = Checked Block} (fine a) (fine b) = sym p ∙ q in cc

fault_or_fine : (c : Checked Block) (r : Refusal) (b : Block) → c ≡ fault r.code r.pos → c ≡ fine b → ⊥
fault_or_fine c r b p q = let same : ◌≡◌ {A = Checked Block} (fault r.code r.pos) (fine b) = sym p ∙ q in cc

typed_once : (file input : Text) (s : Scoped) (x y : Ending) → OfScoped file input s x → OfScoped file input s y → x ≡ y
typed_once file input s =
    phase_once file (IsNotBuilt s) (IsBuilt s) _ (λ q r h k. h.1 ∙ sym k.1) (λ a b h k. refl) (λ r u h k. let no : false ≡ true = sym h.0 ∙ k in cc)
    (λ u g. phase_once file (IsFaulty s) (IsMarked s) _ (fault_once (typing s)) (fine_once (typing s)) (fault_or_fine (typing s)) (λ marked m. run_once file input (marked_module s marked)))

-- ---- names

tree_once : (file input : Text) (tree : Chunk) (x y : Ending) → OfTree file input tree x → OfTree file input tree y → x ≡ y
tree_once file input tree =
    phase_once file (λ r. resolution tree ≡ Err r) (λ s. resolution tree ≡ Ok s) (OfScoped file input)
    (λ q r h k. let same : ◌≡◌ {A = Result Scoped Refusal} (Err q) (Err r) = sym h ∙ k in cc)
    (λ a b h k. let same : ◌≡◌ {A = Result Scoped Refusal} (Ok a) (Ok b) = sym h ∙ k in cc)
    (λ r a h k. let same : ◌≡◌ {A = Result Scoped Refusal} (Err r) (Ok a) = sym h ∙ k in cc)
    (λ s h. typed_once file input s)

-- ---- grammar and tokens

module_once : (kind : ModuleKind) (ts : Words) (a b : Chunk) → IsModule 0 kind ts a → IsModule 0 kind ts b → a ≡ b
module_once kind ts a b h k =
    let numbers : a.«module» ≡ b.«module» = h.0 ∙ sym k.0 in
    let kinds : a.kind ≡ b.kind = h.1 ∙ sym k.1 in
    let bodies : a.body ≡ b.body = one_tree h.2 k.2 in
    λ i. record { «module» = numbers i; kind = kinds i; body = bodies i }

refusal_or_module : (kind : ModuleKind) (ts : Words) (r : Refusal) (a : Chunk) → IsRefused kind ts r → IsModule 0 kind ts a → ⊥
refusal_or_module kind ts r a h k = parsing.refused_no_tree h k.2 k.3

tokens_once : (file input : Text) (kind : ModuleKind) (source : Text) (tokens : List Token) (x y : Ending) → OfTokens file input kind source tokens x → OfTokens file input kind source tokens y → x ≡ y
tokens_once file input kind source tokens =
    let words = words_of source tokens in
    phase_once file (IsRefused kind words) (IsModule 0 kind words) (OfTree file input) (λ q r h k. parsing.refused_once h k) (module_once kind words) (refusal_or_module kind words)
    (λ tree h. tree_once file input tree)

source_once : (file input : Text) (kind : ModuleKind) (source : Text) (x y : Ending) → OfSource file input kind source x → OfSource file input kind source y → x ≡ y
source_once file input kind source =
    phase_once file (Refused 0 source) (Lexed 0 source) (OfTokens file input kind source) (λ q r h k. lexing.refused_once h k) (λ a b h k. lexing.lexed_once h k) (λ r a h k. lexing.lexed_or_refused k h)
    (λ tokens h. tokens_once file input kind source tokens)

-- ---- the file

unread_once : (found : Option Text) (q r : Refusal) → IsUnread found q → IsUnread found r → q ≡ r
unread_once None q r h k = h ∙ sym k
unread_once (Some bytes) q r h k = h.1 ∙ sym k.1

read_once : (found : Option Text) (a b : Text) → IsRead found a → IsRead found b → a ≡ b
read_once found a b h k = let same : ◌≡◌ {A = Option Text} (Some a) (Some b) = sym h.0 ∙ k.0 in cc

unread_or_read : (found : Option Text) (r : Refusal) (a : Text) → IsUnread found r → IsRead found a → ⊥
unread_or_read None r a h k = let same : ◌≡◌ {A = Option Text} None (Some a) = k.0 in cc
unread_or_read (Some bytes) r a h k =
    let same : bytes ≡ a = cc k.0 in
    let long = h.0 in
    let short = k.1 in
    let lengths = ap length same in
    omega (arith, long, short, lengths)

bytes_once : (file input : Text) (found : Option Text) (kind : ModuleKind) (x y : Ending) → OfBytes file input found kind x → OfBytes file input found kind y → x ≡ y
bytes_once file input found kind =
    phase_once file (IsUnread found) (IsRead found) (OfSource file input kind) (unread_once found) (read_once found) (unread_or_read found) (λ source h. source_once file input kind source)

file_once : (file : Text) (files : List FileBytes) (input : Text) (x y : Ending) → OfFile file files input x → OfFile file files input y → x ≡ y
file_once file files input =
    phase_once file (IsMisnamed file) (HasKind file) (OfBytes file input (bytes_of files file)) (λ q r h k. h.1 ∙ sym k.1)
    (λ a b h k. let same : ◌≡◌ {A = Option ModuleKind} (Some a) (Some b) = sym h ∙ k in cc)
    (λ r a h k. let same : ◌≡◌ {A = Option ModuleKind} None (Some a) = sym h.0 ∙ k in cc)
    (λ kind h. bytes_once file input (bytes_of files file) kind)

words_once : (o : Option Text) (files : List FileBytes) (input : Text) (x y : Ending) → OfWords o files input x → OfWords o files input y → x ≡ y
words_once None files input x y h k = h ∙ sym k
words_once (Some file) files input x y h k = file_once file files input x y h k

pub defined_once : (words : List Text) (files : List FileBytes) (input : Text) (x y : Ending) → Defined words files input x → Defined words files input y → x ≡ y
defined_once words files input x y h k = words_once (file_to_run words) files input x y h k
