-- The scopes of locals follow the blocks of the text: the rules by which pieces of text are put together.
use Rattle.std.proofs.Common.{◌≡◌, ℕ, suc, ◌+◌, Bool, true, false, cond, List, [], ◌∷◌, ◌++◌, Option, Some, None, map, drop, length, refl, ap, sym, ◌∙◌, subst, arith}
use Rattle.std.specs.Prelude.{Ok, Err, nat_lt}
use Rattle.std.specs.List.{flat_map}
use Rattle.std.specs.Option.{option_map_or}
use Rattle.std.proofs.lemmas.List.{drop-drop, append_assoc}
use Rattle.tl_base.specs.declared.place.Pos.{Pos}
use Rattle.lua_tree.specs.declared.annotation.Name.{Name}
use Rattle.lua_tree.specs.Scopes.Events as says
use Rattle.lua_tree.specs.Scopes.Events.{Event}
use Rattle.lua_tree.specs.Scopes.Places.{State, Local}
use Rattle.lua_tree.specs.Scopes.Binding.{Outcome, run, step, back_to, declared_at, declared_local, local_named, captured_by, crossed}
use Rattle.lua_tree.specs.Scopes.Trees.{Events, Word, declares, appear, scope, shows, field_value, field_target, call_value}
use Rattle.lua_tree.specs.Scopes.Binding.{use_local, use_library, assign_library, use_library_field, assign_library_field, call_library, with_local, with_library, refused}
use Rattle.lua_tree.specs.Scopes.Library.{is_library_table, named}
use Rattle.std.specs.Prelude.{codes}
use Rattle.std.specs.Str.{bytes_eq}
use Rattle.lua_tree.specs.Scopes.Lexical.{Stays, Nests, Keeps, Opens}

-- ---- one after another

abbrev then_run : Events → Outcome → Outcome
then_run es (Ok t) = run es t
then_run es (Err r) = Err r

run_from : (es fs : Events) (o : Outcome) → ((t : State) → run (es ++ fs) t ≡ then_run fs (run es t)) → then_run (es ++ fs) o ≡ then_run fs (then_run es o)
run_from es fs (Ok t) next = next t
run_from es fs (Err r) next = refl

run_cons : (e : Event) (es : Events) (o : Outcome) → (elim o [ Ok t ↦ run es t | Err r ↦ Err r ]) ≡ then_run es o
run_cons e es (Ok t) = refl
run_cons e es (Err r) = refl

run_append : (es fs : Events) (s : State) → run (es ++ fs) s ≡ then_run fs (run es s)
run_append [] fs s = refl
run_append (e ∷ es) fs s = run_cons e (es ++ fs) (step e s) ∙ run_from es fs (step e s) (λ t. run_append es fs t) ∙ ap (then_run fs) (sym (run_cons e es (step e s)))

stays_further : (s t : State) (o : Outcome) → t.place ≡ s.place → t.around ≡ s.around → t.declared ≡ s.declared → Stays t o → Stays s o
stays_further s t (Ok u) p a d h = (h.0 ∙ p, h.1 ∙ a, h.2 ∙ d)
stays_further s t (Err r) p a d h = tt

nests_further : (s t : State) (o : Outcome) → t.around ≡ s.around → t.declared ≡ s.declared → Nests t o → Nests s o
nests_further s t (Ok u) a d h = (h.0 ∙ a, h.1 ∙ d)
nests_further s t (Err r) a d h = tt

stays_then : (s : State) (fs : Events) (o : Outcome) → Stays s o → Keeps fs → Stays s (then_run fs o)
stays_then s fs (Ok t) h k = stays_further s t (run fs t) h.0 h.1 h.2 (k t)
stays_then s fs (Err r) h k = tt

nests_then : (s : State) (fs : Events) (o : Outcome) → Nests s o → Opens fs → Nests s (then_run fs o)
nests_then s fs (Ok t) h k = nests_further s t (run fs t) h.0 h.1 (k t)
nests_then s fs (Err r) h k = tt

pub keeps_nothing : Keeps []
keeps_nothing s = (refl, refl, refl)

pub keeps_both : (es fs : Events) → Keeps es → Keeps fs → Keeps (es ++ fs)
keeps_both es fs a b s = subst (Stays s) (sym (run_append es fs s)) (stays_then s fs (run es s) (a s) b)

pub opens_both : (es fs : Events) → Opens es → Opens fs → Opens (es ++ fs)
opens_both es fs a b s = subst (Nests s) (sym (run_append es fs s)) (nests_then s fs (run es s) (a s) b)

nests_of : (s : State) (o : Outcome) → Stays s o → Nests s o
nests_of s (Ok t) h = (h.1, h.2)
nests_of s (Err r) h = tt

pub opens_of : (es : Events) → Keeps es → Opens es
opens_of es k s = nests_of s (run es s) (k s)

pub keeps_each : {E A B : Type 0} (g : E → A) (h : A → B) (f : B → Events) → ((e : E) → Keeps (f (h (g e)))) → (es : List E) → Keeps (flat_map f (map h (map g es)))
keeps_each g h f k [] = keeps_nothing
keeps_each g h f k (e ∷ es) = keeps_both (f (h (g e))) (flat_map f (map h (map g es))) (k e) (keeps_each g h f k es)

pub opens_each : {E A B : Type 0} (g : E → A) (h : A → B) (f : B → Events) → ((e : E) → Opens (f (h (g e)))) → (es : List E) → Opens (flat_map f (map h (map g es)))
opens_each g h f k [] = opens_of [] keeps_nothing
opens_each g h f k (e ∷ es) = opens_both (f (h (g e))) (flat_map f (map h (map g es))) (k e) (opens_each g h f k es)

-- ---- scopes

back : (s t : State) → t.around ≡ s.place ∷ s.around → t.declared ≡ s.declared → Stays s (Ok (back_to t.around t))
back s t a d = subst (λ ps. Stays s (Ok (back_to ps t))) (sym a) (refl, refl, d)

closed : (s : State) (o : Outcome) → ((t : State) → o ≡ Ok t → (t.around ≡ s.place ∷ s.around) × (t.declared ≡ s.declared)) → Stays s (then_run (says.finish ∷ []) o)
closed s (Ok t) h = let k = h t refl in back s t k.0 k.1
closed s (Err r) h = tt

inner : (s u : State) (o : Outcome) → u.around ≡ s.place ∷ s.around → u.declared ≡ s.declared → Nests u o → (t : State) → o ≡ Ok t → (t.around ≡ s.place ∷ s.around) × (t.declared ≡ s.declared)
inner s u (Ok v) a d h t e = let same : v ≡ t = cc in (ap (λ x. x.around) (sym same) ∙ h.0 ∙ a, ap (λ x. x.declared) (sym same) ∙ h.1 ∙ d)
inner s u (Err r) a d h t e = cc

closes : (s u : State) (es : Events) → u.around ≡ s.place ∷ s.around → u.declared ≡ s.declared → Opens es → Stays s (run (es ++ says.finish ∷ []) u)
closes s u es a d k = subst (Stays s) (sym (run_append es (says.finish ∷ []) u)) (closed s (run es u) (inner s u (run es u) a d (k u)))

pub keeps_block : (es : Events) → Opens es → Keeps (scope says.block es)
keeps_block es k s = closes s _ es refl refl k

pub keeps_loop : (es : Events) → Opens es → Keeps (scope says.loop es)
keeps_loop es k s = closes s _ es refl refl k

pub keeps_function : (has_rest : Bool) (es : Events) → Opens es → Keeps (scope (says.function has_rest) es)
keeps_function has_rest es k s = closes s _ es refl refl k

-- ---- what is said at one place

stays_if : (s : State) (b : Bool) (o u : Outcome) → Stays s o → Stays s u → Stays s (cond b o u)
stays_if s true o u h k = h
stays_if s false o u h k = k

stays_found : {A : Type 0} (s : State) (f : A → Outcome) (a : Option A) (o : Outcome) → ((x : A) → Stays s (f x)) → Stays s o → Stays s (option_map_or f a o)
stays_found s f None o h k = k
stays_found s f (Some x) o h k = h x

at_once : (s : State) (o : Outcome) → Stays s o → Stays s (elim o [ Ok t ↦ Ok t | Err r ↦ Err r ])
at_once s (Ok t) h = h
at_once s (Err r) h = h

keeps_one : (e : Event) → ((s : State) → Stays s (step e s)) → Keeps (e ∷ [])
keeps_one e h s = at_once s (step e s) (h s)

stays_local : (s : State) (assigns : Bool) (p : Pos) (l : Local) → Stays s (use_local assigns p s l)
stays_local s assigns p l = stays_found s (λ cs. Ok (with_local assigns l s cs)) (captured_by l.number (crossed l s.place s.around) s.found.captures) _ (λ cs. (refl, refl, refl)) tt

stays_library : (s : State) (p : Pos) (name : List ℕ) → Stays s (use_library p name s)
stays_library s p name =
    stays_if s (is_library_table name) _ _ tt (stays_if s (bytes_eq name (codes "require")) _ _ tt (stays_found s (λ n. Ok (with_library s n)) (named [] name) _ (λ n. (refl, refl, refl)) tt))

stays_library_field : (s : State) (p q : Pos) (name key : List ℕ) → Stays s (use_library_field p name q key s)
stays_library_field s p q name key = stays_if s (is_library_table name) _ _ (stays_found s (λ n. Ok (with_library s n)) (named name key) _ (λ n. (refl, refl, refl)) tt) (stays_library s p name)

stays_assign_field : (s : State) (p q : Pos) (name key : List ℕ) → Stays s (assign_library_field p name q key s)
stays_assign_field s p q name key = stays_if s (is_library_table name) _ _ (stays_found s _ (named name key) _ (λ n. tt) tt) (stays_library s p name)

stays_call : (s : State) (p q : Pos) (name text : List ℕ) → Stays s (call_library p name q text s)
stays_call s p q name text = stays_if s (bytes_eq name (codes "require")) _ _ (refl, refl, refl) (stays_library s p name)

stays_assign : (s : State) (p : Pos) (name : List ℕ) → Stays s (assign_library p name)
stays_assign s p name = stays_if s (is_library_table name) _ _ tt (stays_found s _ (named [] name) _ (λ n. tt) tt)

pub keeps_use : (p : Pos) (name : List ℕ) → Keeps (says.use_name p name ∷ [])
keeps_use p name = keeps_one (says.use_name p name) (λ s. stays_found s (use_local false p s) (local_named name s) _ (λ l. stays_local s false p l) (stays_library s p name))

pub keeps_assign : (p : Pos) (name : List ℕ) → Keeps (says.assign_name p name ∷ [])
keeps_assign p name = keeps_one (says.assign_name p name) (λ s. stays_found s (use_local true p s) (local_named name s) _ (λ l. stays_local s true p l) (stays_assign s p name))

pub keeps_leave : (p : Pos) → Keeps (says.leave p ∷ [])
keeps_leave p = keeps_one (says.leave p) (λ s. stays_if s s.place.in_loop _ _ (refl, refl, refl) tt)

pub keeps_vararg : (p : Pos) → Keeps (says.vararg p ∷ [])
keeps_vararg p = keeps_one (says.vararg p) (λ s. stays_if s s.place.has_rest _ _ (refl, refl, refl) tt)

pub keeps_field : (w : Option Word) (es : Events) (key : Name) → Keeps es → Keeps (field_value w es key)
keeps_field None es key k = k
keeps_field (Some w) es key k = keeps_one (says.use_field w.pos w.text key.pos key.text) (λ s. stays_found s (use_local false w.pos s) (local_named w.text s) _ (λ l. stays_local s false w.pos l) (stays_library_field s w.pos key.pos w.text key.text))

pub keeps_field_target : (w : Option Word) (es : Events) (key : Name) → Keeps es → Keeps (field_target w es key)
keeps_field_target None es key k = k
keeps_field_target (Some w) es key k = keeps_one (says.assign_field w.pos w.text key.pos key.text) (λ s. stays_found s (use_local false w.pos s) (local_named w.text s) _ (λ l. stays_local s false w.pos l) (stays_assign_field s w.pos key.pos w.text key.text))

pub keeps_call : (w : Option Word) (ts : List (Option Word)) (es : Events) → Keeps es → Keeps (call_value w ts es)
keeps_call None ts es k = k
keeps_call (Some w) [] es k = k
keeps_call (Some w) (None ∷ ts) es k = k
keeps_call (Some w) (Some t ∷ u ∷ ts) es k = k
keeps_call (Some w) (Some t ∷ []) es k = keeps_one (says.call_text w.pos w.text t.pos t.text) (λ s. stays_found s (use_local false w.pos s) (local_named w.text s) _ (λ l. stays_local s false w.pos l) (stays_call s w.pos t.pos w.text t.text))

-- ---- declarations

-- the names that were declared last are so many, and then come those before
abbrev Holds : ℕ → State → Outcome → Type 0
Holds n s (Ok t) = (t.around ≡ s.around) × (drop n t.declared ≡ s.declared)
Holds n s (Err r) = Unit {0}

holds_more : (n : ℕ) (s u : State) (o : Outcome) → u.around ≡ s.around → drop 1 u.declared ≡ s.declared → Holds n u o → Holds (suc n) s o
holds_more n s u (Ok t) a d h =
    let e : suc n ≡ n + 1 = omega arith in
    (h.0 ∙ a, ap (λ k. drop k t.declared) e ∙ sym (drop-drop 1 n t.declared) ∙ ap (drop 1) h.1 ∙ d)
holds_more n s u (Err r) a d h = tt

holds_if : (n : ℕ) (s u : State) (b : Bool) (r : Outcome) (ns : List Name) → Holds (suc n) s (then_run (declares ns) r) → u.around ≡ s.around → drop 1 u.declared ≡ s.declared → Holds n u (run (declares ns) u)
    → Holds (suc n) s (then_run (declares ns) (cond b (Ok u) r))
holds_if n s u true r ns other a d h = holds_more n s u (run (declares ns) u) a d h
holds_if n s u false r ns other a d h = other

declared_all : (ns : List Name) (s : State) → Holds (length ns) s (run (declares ns) s)
declared_all [] s = (refl, refl)
declared_all (n ∷ ns) s =
    subst (Holds (suc (length ns)) s) (sym (run_cons (says.declare n.pos n.text) (declares ns) (declared_at n.pos n.text s)))
    (holds_if (length ns) s (declared_local n.text s) (nat_lt s.place.alive 200) (refused _ n.pos) ns tt refl refl (declared_all ns (declared_local n.text s)))

kept : (n : ℕ) (s t : State) (o : Outcome) → Holds n s (Ok t) → Stays t o → Holds n s o
kept n s t (Ok u) h k = (k.1 ∙ h.0, ap (drop n) k.2 ∙ h.1)
kept n s t (Err r) h k = tt

shown_then : (n : ℕ) (s : State) (es : Events) (o : Outcome) → Holds n s o → Keeps es → Holds n s (then_run es o)
shown_then n s es (Ok t) h k = kept n s t (run es t) h (k t)
shown_then n s es (Err r) h k = tt

shown : (n : ℕ) (s : State) (o : Outcome) → Holds n s o → Nests s (then_run (says.appear n ∷ []) o)
shown n s (Ok t) h = h
shown n s (Err r) h = tt

pub opens_declared : (ns : List Name) (es : Events) → Keeps es → Opens (declares ns ++ es ++ appear ns ∷ [])
opens_declared ns es k s =
    subst (Nests s) (sym (run_append (declares ns ++ es) (appear ns ∷ []) s ∙ ap (then_run (appear ns ∷ [])) (run_append (declares ns) es s)))
    (shown (length ns) s (then_run es (run (declares ns) s)) (shown_then (length ns) s es (run (declares ns) s) (declared_all ns s) k))

-- the same with what follows
pub opens_declared_then : (ns : List Name) (es fs : Events) → Keeps es → Opens fs → Opens (declares ns ++ es ++ appear ns ∷ fs)
opens_declared_then ns es fs k o = subst Opens (append_assoc (declares ns ++ es) (appear ns ∷ []) fs) (opens_both (declares ns ++ es ++ appear ns ∷ []) fs (opens_declared ns es k) o)

pub opens_shows : (ns : List Name) → Opens (shows ns)
opens_shows ns s =
    subst (Nests s) (sym (run_append (declares ns) (appear ns ∷ []) s))
    (shown (length ns) s (run (declares ns) s) (declared_all ns s))

pub opens_bounds : (ns : List Name) (a b c fs : Events) → Keeps a → Keeps b → Keeps c → Opens fs → Opens (declares ns ++ a ++ b ++ c ++ appear ns ∷ fs)
opens_bounds ns a b c fs ka kb kc o =
    let regrouped : declares ns ++ (a ++ b ++ c) ≡ declares ns ++ a ++ b ++ c = simp append_assoc in
    subst (λ es. Opens (es ++ appear ns ∷ fs)) regrouped (opens_declared_then ns (a ++ b ++ c) fs (keeps_both (a ++ b) c (keeps_both a b ka kb) kc) o)
