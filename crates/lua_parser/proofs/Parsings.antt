-- What the reading of a module answers, from where its run ends.
use Rattle.std.proofs.Common.{◌≡◌, inl, inr, ℕ, ◌+◌, ◌-◌, Bool, true, false, List, Some, None, [], ◌∷◌, ◌++◌, length, take, drop, get_or, Result, Ok, Err, refl, sym, subst, ap, append-nil, append_assoc, ◌∙◌, arith}
use Rattle.std.specs.Prelude.{IfOk, IfErr, IsTrue, nat_lt}
use Rattle.std.proofs.lemmas.List.{length-append}
use Rattle.std.proofs.Math.Seq.{take-length}
use Rattle.tl_base.specs.declared.place.ModuleKind.{ModuleKind}
use Rattle.tl_base.specs.declared.place.ModuleKind.TheVariants.{Typed}
use Rattle.tl_base.specs.declared.refusal.Refusal.{Refusal}
use Rattle.tl_base.specs.declared.refusal.RefusalCode.{RefusalCode}
use Rattle.tl_base.specs.declared.refusal.RefusalCode.TheVariants as code
use Rattle.tl_base.specs.declared.refusal.Failure.{Failure}
use Rattle.tl_base.specs.declared.refusal.Failure.TheVariants as failure
use Rattle.lua_tree.specs.declared.syntax.Block.{Block}
use Rattle.lua_tree.specs.declared.syntax.Chunk.{Chunk}
use Rattle.lua_lexer.specs.declared.token.Token.{Token}
use Rattle.lua_parser.specs.Words.{Word, Words, words_of, word_of}
use Rattle.lua_parser.specs.Grammar.Syntax.{SpellsChunk}
use Rattle.lua_parser.specs.Grammar.Fault.{IsViable, FaultAt, HasCode, foreign}
use Rattle.lua_parser.specs.Grammar.TooDeep.{limits, Readable}
use Rattle.lua_parser.specs.Counting.Verdict.{IsWithin, IsFirstOver}
use Rattle.lua_parser.specs.Machine.Run.{run, module_plan}
use Rattle.lua_parser.specs.declared.reader.Reader.{Reader}
use Rattle.lua_parser.specs.declared.reader.Mode.TheVariants as mode
use Rattle.lua_parser.specs.Stacks.{plan, Reaches}
use Rattle.lua_parser.specs.Machine.Plan.{Plan}
use Rattle.lua_parser.specs.declared.cursor.Stop.{Stop}
use Rattle.lua_parser.specs.declared.cursor.Stop.TheVariants as stop
use Rattle.lua_parser.specs.Outcomes.{head_pos}
use Rattle.lua_parser.specs.Parsing.{IsModule, IsShallow, IsFault, IsTooDeep, IsRefused, IsFailure, IsTree, IsRefusal, head_foreign, code_if}
use Rattle.lua_parser.proofs.Laws.{fault_at, spelled, viable_front, one_tree, one_fault, no_tree_at_fault, one_code}
use Rattle.lua_parser.proofs.TooDeep.{one_too_deep}
use Rattle.lua_parser.proofs.Counting.Labels.{within_none, first_over}
use Rattle.lua_parser.proofs.Cuts.{count_words, words_cut, front_is, front_and_one, take_length, within, seen_at}

-- ---- whether some module begins with words, by where a run of them ends

spelled_begins : (kind : ModuleKind) (ts : Words) (b : Block) → SpellsChunk kind b ts → IsViable kind ts
spelled_begins kind ts b d = ([], b, subst (SpellsChunk kind b) (sym (append-nil ts)) d)

pub whole_begins : (kind : ModuleKind) (ts : Words) (b : Block) → run kind module_plan ts ≡ Ok b → IsViable kind ts
whole_begins kind ts b e = spelled_begins kind ts b (spelled kind ts b e)

all_begin : (kind : ModuleKind) (ts : Words) → FaultAt kind ts [] → IsViable kind ts
all_begin kind ts f = subst (IsViable kind) (sym (append-nil f.0) ∙ sym f.1) f.2

not_begun : (kind : ModuleKind) (ts : Words) (x : Word) (us : Words) → FaultAt kind ts (x ∷ us) → IsViable kind ts → ⊥
not_begun kind ts x us f v = f.3 (viable_front (f.0 ++ x ∷ []) us (subst (IsViable kind) (f.1 ∙ sym (append_assoc f.0 (x ∷ []) us)) v))

pub begins_where_over : (kind : ModuleKind) (ts left : Words) (over : Bool) → run kind module_plan ts ≡ Err left → (IsTrue over → left ≡ []) × (left ≡ [] → IsTrue over) → (IsTrue over → IsViable kind ts) × (IsViable kind ts → IsTrue over)
begins_where_over kind ts [] over e o = (λ t. all_begin kind ts (fault_at kind ts [] e), λ v. o.1 refl)
begins_where_over kind ts (x ∷ us) over e o = (λ t. let no : ◌≡◌ {A = Words} (x ∷ us) [] = o.0 t in cc, λ v. absurd (not_begun kind ts x us (fault_at kind ts (x ∷ us) e) v))

-- ---- the first word with which no spelling goes on

refused_at : (kind : ModuleKind) (all : Words) (x : Word) (us : Words) (r : Refusal) → run kind module_plan all ≡ Err (x ∷ us) → IsShallow kind all → ((front : Words) → all ≡ front ++ x ∷ us → HasCode front (x ∷ us) r.code) → r.pos ≡ x.pos
    → IsRefused kind all r
refused_at kind all x us r e h c p =
    let f = fault_at kind all (x ∷ us) e in
    inr (record { front = f.0; word = x; rest = us; whole = f.1; begins = f.2; stops = f.3; code = c f.0 f.1; pos = p; shallow = h })

pub foreign_refused : (kind : ModuleKind) (all ts : Words) (c : RefusalCode) (r : Refusal) → run kind module_plan all ≡ Err ts → IsShallow kind all → head_foreign ts ≡ Some c → r.code ≡ c → r.pos ≡ head_pos ts → IsRefused kind all r
foreign_refused kind all [] c r e k h a b = cc
foreign_refused kind all (x ∷ us) c r e k h a b = refused_at kind all x us r e k (λ front w. subst (HasCode front (x ∷ us)) (sym a) (HasCode.foreign_word x h)) b

typed_code : (front : Words) (x : Word) (us : Words) (goes : Bool) → foreign x.kind ≡ None → (IsTrue goes → IsViable Typed (front ++ x ∷ [])) × (IsViable Typed (front ++ x ∷ []) → IsTrue goes) → HasCode front (x ∷ us) (code_if goes)
typed_code front x us true n g = HasCode.types x n (g.0 refl)
typed_code front x us false n g = HasCode.other x n (λ v. let no : false ≡ true = g.1 v in cc)

pub typed_refused : (kind : ModuleKind) (source : List ℕ) (tokens : List Token) (ts : Words) (n : ℕ) (goes : Bool) (r : Refusal) → run kind module_plan (words_of source tokens) ≡ Err ts → IsShallow kind (words_of source tokens) → (ts ≡ [] → ⊥)
    → head_foreign ts ≡ None → n + length ts ≡ length tokens + 1 → (IsTrue goes → IsViable Typed (words_of source (take n tokens))) × (IsViable Typed (words_of source (take n tokens)) → IsTrue goes) → r.code ≡ code_if goes → r.pos ≡ head_pos ts
    → IsRefused kind (words_of source tokens) r
typed_refused kind source tokens [] n goes r e k some h l g a b = absurd (some refl)
typed_refused kind source tokens (x ∷ us) n goes r e k some h l g a b =
    refused_at kind (words_of source tokens) x us r e k (λ front w.
    let i = front_and_one source tokens front x us n w (omega (arith, l)) in
    subst (HasCode front (x ∷ us)) (sym a) (typed_code front x us goes h (subst (λ z. (IsTrue goes → IsViable Typed z) × (IsViable Typed z → IsTrue goes)) i g))) b

-- ---- the first word that is too deep

-- so many tokens are read where these words are left
pub read_before : (kind : ModuleKind) (source : List ℕ) (tokens : List Token) (left : Words) (n : ℕ) → run kind module_plan (words_of source tokens) ≡ Err left → n ≡ length tokens - length left → n + length left ≡ length tokens
read_before kind source tokens left n e l =
    let f = fault_at kind (words_of source tokens) left e in
    let a = ap (λ z. length z) f.1 in
    omega (arith, l, a, count_words source tokens, length-append f.0 left)

pub read_behind : (kind : ModuleKind) (source : List ℕ) (tokens : List Token) (left : Words) (m k n : ℕ) → run kind module_plan (words_of source tokens) ≡ Err left → (left ≡ [] → ⊥) → m ≡ length left → k ≡ m - 1 → n ≡ length tokens - k
    → n + length left ≡ length tokens + 1
read_behind kind source tokens [] m k n e some a b d = absurd (some refl)
read_behind kind source tokens (x ∷ us) m k n e some a b d =
    let f = fault_at kind (words_of source tokens) (x ∷ us) e in
    let g = ap (λ z. length z) f.1 in
    omega (arith, a, b, d, g, count_words source tokens, length-append f.0 (x ∷ us))

pub begins_before : (kind : ModuleKind) (source : List ℕ) (tokens : List Token) (left : Words) (n : ℕ) → run kind module_plan (words_of source tokens) ≡ Err left → n + length left ≡ length tokens → IsViable kind (words_of source (take n tokens))
begins_before kind source tokens left n e l =
    let f = fault_at kind (words_of source tokens) left e in
    subst (IsViable kind) (sym (front_is source tokens f.0 left n f.1 l)) f.2

pub shallow_before : (kind : ModuleKind) (source : List ℕ) (tokens : List Token) (left : Words) (n : ℕ) → run kind module_plan (words_of source tokens) ≡ Err left → n + length left ≡ length tokens → IsWithin limits (words_of source (take n tokens))
    → IsShallow kind (words_of source tokens)
shallow_before kind source tokens left n e l w =
    let f = fault_at kind (words_of source tokens) left e in
    within_none (Readable.before_fault left f.1 f.2 f.3) (subst (IsWithin limits) (front_is source tokens f.0 left n f.1 l) w)

pub all_tokens_begin : (kind : ModuleKind) (source : List ℕ) (tokens : List Token) (b : Block) → run kind module_plan (words_of source tokens) ≡ Ok b → IsViable kind (words_of source (take (length tokens) tokens))
all_tokens_begin kind source tokens b e =
    subst (λ z. IsViable kind (words_of source z)) (sym (take-length tokens)) (whole_begins kind (words_of source tokens) b e)

pub shallow_whole : (kind : ModuleKind) (ts : Words) (b : Block) → SpellsChunk kind b ts → IsWithin limits ts → IsShallow kind ts
shallow_whole kind ts b d w = within_none (Readable.whole d) w

pub deep_refused : (kind : ModuleKind) (source : List ℕ) (tokens : List Token) (read n : ℕ) (x : Token) (r : Refusal) → IsViable kind (words_of source (take read tokens)) → IsFirstOver limits (words_of source (take read tokens)) n
    → (d : Token) → true ≡ nat_lt n (length tokens) → x ≡ get_or tokens n d → r.code ≡ code.P4 → r.pos ≡ x.pos → IsRefused kind (words_of source tokens) r
deep_refused kind source tokens read n x r v o d t i a b =
    let l = within n (length tokens) t in
    let e = seen_at tokens n x d l i in
    let ts = words_of source (take read tokens) in
    let us = words_of source (drop read tokens) in
    let front = words_of source (take n tokens) in
    let rest = words_of source (drop (n + 1) tokens) in
    let cut : words_of source tokens ≡ front ++ word_of source x ∷ rest = words_cut source n tokens ∙ ap (λ z. front ++ words_of source z) e in
    let long : n ≡ length front = sym (take_length source n tokens (omega (arith, l))) in
    inl (record { word = word_of source x; rest = rest; deep = first_over ts us (words_cut source read tokens) v front (word_of source x ∷ rest) cut (subst (IsFirstOver limits ts) long o); code = a; pos = b })

-- ---- a tree and a refusal are one, and never both

fault_of : {kind : ModuleKind} {ts : Words} {r : Refusal} (f : IsFault kind ts r) → FaultAt kind ts (f.word ∷ f.rest)
fault_of f = (f.front, f.whole, f.begins, f.stops)

same_front : (a b c d : Words) → a ++ b ≡ c ++ d → b ≡ d → length b ≡ length d → a ≡ c
same_front [] b [] d e f l = refl
same_front [] b (y ∷ c) d e f l = let h = ap (λ z. length z) e in absurd (omega (arith, h, l, length-append c d))
same_front (x ∷ a) b [] d e f l = let h = ap (λ z. length z) e in absurd (omega (arith, h, l, length-append a b))
same_front (x ∷ a) b (y ∷ c) d e f l =
    let g : x ≡ y = cc in let h : a ++ b ≡ c ++ d = cc in ap (λ z. z ∷ a) g ∙ ap (λ z. y ∷ z) (same_front a b c d h f l)

code_at : {front : Words} {rest : Words} {c : RefusalCode} (other : Words) (left : Words) → front ≡ other → rest ≡ left → HasCode front rest c → HasCode other left c
code_at {front = front} {c = c} other left a b h = subst (λ z. HasCode z left c) a (subst (λ z. HasCode front z c) b h)

refusal_once : (q r : Refusal) → q.code ≡ r.code → q.pos ≡ r.pos → q ≡ r
refusal_once q r a b = λ i. record { code = a i; pos = b i }

fault_once : {kind : ModuleKind} {ts : Words} {q r : Refusal} → IsFault kind ts q → IsFault kind ts r → q ≡ r
fault_once {q = q} {r = r} f g =
    let e = one_fault (fault_of f) (fault_of g) in
    let w : f.word ≡ g.word = cc in
    let d = same_front f.front (f.word ∷ f.rest) g.front (g.word ∷ g.rest) (sym f.whole ∙ g.whole) e (ap (λ z. length z) e) in
    refusal_once q r (one_code (code_at g.front (g.word ∷ g.rest) d e f.code) g.code) (f.pos ∙ ap (λ z. z.pos) w ∙ sym g.pos)

deep_once : {kind : ModuleKind} {ts : Words} {q r : Refusal} → IsTooDeep kind ts q → IsTooDeep kind ts r → q ≡ r
deep_once {q = q} {r = r} f g =
    let e = one_too_deep f.deep g.deep in
    let w : f.word ≡ g.word = cc in
    refusal_once q r (f.code ∙ sym g.code) (f.pos ∙ ap (λ z. z.pos) w ∙ sym g.pos)

pub refused_once : {kind : ModuleKind} {ts : Words} {q r : Refusal} → IsRefused kind ts q → IsRefused kind ts r → q ≡ r
refused_once (inl f) (inl g) = deep_once f g
refused_once (inl f) (inr g) = absurd (g.shallow (f.word ∷ f.rest) f.deep)
refused_once (inr f) (inl g) = absurd (f.shallow (g.word ∷ g.rest) g.deep)
refused_once (inr f) (inr g) = fault_once f g

-- Words that are refused spell no tree, or one of them is too deep.
pub refused_no_tree : {kind : ModuleKind} {ts : Words} {r : Refusal} {b : Block} → IsRefused kind ts r → SpellsChunk kind b ts → IsShallow kind ts → ⊥
refused_no_tree (inl f) d h = h (f.word ∷ f.rest) f.deep
refused_no_tree (inr f) d h = no_tree_at_fault d (fault_of f)

pub only_tree : (m : ℕ) {kind : ModuleKind} {ts : Words} {b : Block} (r : Result Chunk Failure) → IfOk r (λ c. IsModule m kind ts c) → IfErr r (λ e. IsFailure kind ts e) → SpellsChunk kind b ts → IsShallow kind ts → IsTree b r
only_tree m (Ok c) h k d s = one_tree h.2 d
only_tree m (Err failure.NoMemory) h k d s = tt
only_tree m (Err (failure.Refused r)) h k d s = refused_no_tree k d s

pub only_refusal : (m : ℕ) {kind : ModuleKind} {ts : Words} {q : Refusal} (r : Result Chunk Failure) → IfOk r (λ c. IsModule m kind ts c) → IfErr r (λ e. IsFailure kind ts e) → IsRefused kind ts q → IsRefusal q r
only_refusal m (Ok c) h k f = refused_no_tree f h.2 h.3
only_refusal m (Err failure.NoMemory) h k f = tt
only_refusal m (Err (failure.Refused r)) h k f = refused_once k f

-- what each tree of a module is, the tree that is answered is
pub of_tree : {A : Type 0} {P Q : Chunk → Type 0} (r : Result Chunk A) → ((c : Chunk) → P c → Q c) → IfOk r P → IfOk r Q
of_tree (Ok c) f h = f c h
of_tree (Err e) f h = tt

-- ---- where a reader at a module's beginning gets to

pub reached : (r : Reader) (kind : ModuleKind) (ts : Words) (x : Result Block Words) → r.kind ≡ kind → r.cursor ≡ ts → plan r mode.Block ≡ module_plan → run r.kind (plan r mode.Block) r.cursor ≡ x → run kind module_plan ts ≡ x
reached r kind ts x a b c e = sym (λ i. run (a i) (c i) (b i)) ∙ e

pub stopped : (p : Plan Block) (r after : Reader) (e : Stop) → e ≡ stop.Unexpected → Reaches p r (Err e) after → run r.kind p r.cursor ≡ Err after.cursor
stopped p r after e i h = subst (λ z. Reaches p r (Err z) after) i h

pub is_module : (m : ℕ) (kind : ModuleKind) (ts : Words) (c : Chunk) → c.«module» ≡ m → c.kind ≡ kind → run kind module_plan ts ≡ Ok c.body → IsWithin limits ts → IsModule m kind ts c
is_module m kind ts c a b e w = let d = spelled kind ts c.body e in (a, b, d, shallow_whole kind ts c.body d w)
