-- What each word on names means where it stands: the step from what was found before it to what is found after it, or the refusal.
use Rattle.std.specs.Prelude.{ℕ, ◌+◌, Bool, true, false, cond, not, ◌==◌, ◌&&◌, ◌||◌, nat_lt, List, [], ◌∷◌, ◌++◌, take, drop, length, map, filter, count_by, reverse, option_map, Option, Some, None, Result, Ok, Err, slice_get, slice_set, option_and_then, codes}
use Rattle.std.specs.Option.{option_map_or}
use Rattle.std.specs.List.{find, list_any}
use Rattle.std.specs.Str.{bytes_eq}
use Rattle.tl_base.specs.declared.place.Pos.{Pos}
use Rattle.tl_base.specs.declared.refusal.Refusal.{Refusal}
use Rattle.tl_base.specs.declared.refusal.RefusalCode.{RefusalCode}
use Rattle.tl_base.specs.declared.refusal.RefusalCode.TheVariants as code
use Rattle.lua_tree.specs.declared.names.LibName.{LibName}
use Rattle.lua_tree.specs.declared.names.LibName.TheVariants as lib
use Rattle.lua_tree.specs.declared.scoped.Use.{Use}
use Rattle.lua_tree.specs.declared.scoped.Use.TheVariants as means
use Rattle.lua_tree.specs.declared.scoped.LocalInfo.{LocalInfo}
use Rattle.lua_tree.specs.Scopes.Events as says
use Rattle.lua_tree.specs.Scopes.Events.{Event}
use Rattle.lua_tree.specs.Scopes.Library.{named, is_library_table}
use Rattle.lua_tree.specs.Scopes.Places.{Local, Binding, Place, Capture, Found, State}

abbrev pub Outcome : Type 0
Outcome = Result State Refusal

abbrev pub refused : RefusalCode → Pos → Outcome
refused c p = Err (record { code = c; pos = p })

-- ---- scopes

-- a scope begins, and its text stands at this place
abbrev pub begin : Place → State → State
begin place s = record s { place = place; around = s.place ∷ s.around }

abbrev pub begin_loop : State → State
begin_loop s = begin (record s.place { in_loop = true }) s

-- a function is numbered where it begins; it sees the locals around it, and has none of its own yet
abbrev pub begin_function : Bool → State → State
begin_function has_rest s =
    record (begin (record { visible = s.place.visible; alive = 0; function = s.found.functions; in_loop = false; has_rest = has_rest }) s) {
      found = record s.found { functions = s.found.functions + 1 };
    }

-- after a scope's end the text stands where the scope began
abbrev pub back_to : List Place → State → State
back_to [] s = s
back_to (p ∷ ps) s = record s { place = p; around = ps }

-- ---- locals

-- a local is numbered where it is declared
abbrev pub declared_local : List ℕ → State → State
declared_local name s = record s {
  place = record s.place { alive = s.place.alive + 1 };
  declared = record { name = name; local = record { number = length s.found.locals; function = s.place.function } } ∷ s.declared;
  found = record s.found { locals = s.found.locals ++ record { function = s.place.function; captured = false; assigned = false; assigned_in_closure = false } ∷ [] };
}

-- at most 200 locals of one function are alive at once
abbrev pub declared_at : Pos → List ℕ → State → Outcome
declared_at p name s = cond (nat_lt s.place.alive 200) (Ok (declared_local name s)) (refused code.S5 p)

abbrev pub appeared : ℕ → State → State
appeared n s = record s {
  place = record s.place { visible = take n s.declared ++ s.place.visible };
  declared = drop n s.declared;
}

-- ---- uses

-- the local that a name means: the latest of those in scope
abbrev pub latest : List ℕ → List Binding → Option Local
latest name bs = option_map (λ b. b.local) (find (λ b. bytes_eq b.name name) bs)

abbrev pub local_named : List ℕ → State → Option Local
local_named name s = latest name s.place.visible

abbrev pub with_use : Use → Found → Found
with_use u f = record f { uses = f.uses ++ u ∷ [] }

abbrev pub is_capture : Capture → Capture → Bool
is_capture c d = (c.0 == d.0) && (c.1 == d.1)

abbrev pub captures_of : ℕ → List Capture → ℕ
captures_of function cs = count_by (λ c. function == c.0) cs

-- a function captures a local once, and at most 255 locals; none where it would be one more
abbrev pub captured : Capture → List Capture → Option (List Capture)
captured c cs = cond (list_any (is_capture c) cs) (Some cs) (cond (nat_lt (captures_of c.0 cs) 255) (Some (cs ++ c ∷ [])) None)

abbrev pub captured_by : ℕ → List ℕ → List Capture → Option (List Capture)
captured_by local [] cs = Some cs
captured_by local (f ∷ fs) cs = option_and_then (captured_by local fs) (captured (f, local) cs)

-- the functions of a place and of the blocks around it, from the outermost to the innermost
abbrev pub functions : Place → List Place → List ℕ
functions place around = map (λ p. p.function) (reverse around) ++ place.function ∷ []

-- those of them that stand inside the function that declares a local, which have greater numbers
abbrev pub crossed : Local → Place → List Place → List ℕ
crossed l place around = cond (l.function == place.function) [] (filter (λ f. nat_lt l.function f) (functions place around))

-- what a use tells of the local: whether it assigns it, and whether it stands in a function inside the one that declares it
abbrev pub told : Bool → Bool → LocalInfo → LocalInfo
told assigns inner i = record i {
  captured = i.captured || inner;
  assigned = i.assigned || assigns;
  assigned_in_closure = i.assigned_in_closure || (assigns && inner);
}

abbrev pub told_of : ℕ → (LocalInfo → LocalInfo) → List LocalInfo → List LocalInfo
told_of local f locals = option_map_or (λ i. slice_set locals local (f i)) (slice_get locals local) locals

abbrev pub with_local : Bool → Local → State → List Capture → State
with_local assigns l s cs = record s {
  found = record (with_use (means.Local l.number) s.found) {
    captures = cs;
    locals = told_of l.number (told assigns (not (l.function == s.place.function))) s.found.locals;
  };
}

-- a use of a local: every function between it and the declaration captures the local
abbrev pub use_local : Bool → Pos → State → Local → Outcome
use_local assigns p s l = option_map_or (λ cs. Ok (with_local assigns l s cs)) (captured_by l.number (crossed l s.place s.around) s.found.captures) (refused code.S6 p)

abbrev pub with_library : State → LibName → State
with_library s n = record s { found = with_use (means.Lib n) s.found }

-- a name of the library's own, where no local has the name
abbrev pub use_library : Pos → List ℕ → State → Outcome
use_library p name s =
    cond (is_library_table name) (refused code.S3 p)
    (cond (bytes_eq name (codes "require")) (refused code.S4 p)
    (option_map_or (λ n. Ok (with_library s n)) (named [] name) (refused code.S1 p)))

abbrev pub assign_library : Pos → List ℕ → Outcome
assign_library p name = cond (is_library_table name) (refused code.S3 p) (option_map_or (λ _. refused code.S2 p) (named [] name) (refused code.S1 p))

-- behind a library's table stands one of its names
abbrev pub use_library_field : Pos → List ℕ → Pos → List ℕ → State → Outcome
use_library_field p name key_place key s =
    cond (is_library_table name) (option_map_or (λ n. Ok (with_library s n)) (named name key) (refused code.S1 key_place)) (use_library p name s)

abbrev pub assign_library_field : Pos → List ℕ → Pos → List ℕ → State → Outcome
assign_library_field p name key_place key s =
    cond (is_library_table name) (option_map_or (λ _. refused code.S2 p) (named name key) (refused code.S1 key_place)) (use_library p name s)

-- `require` with a literal string asks for the module of that name
abbrev pub with_require : Pos → List ℕ → State → State
with_require p name s = record s {
  found = record (with_use (means.Lib lib.Require) s.found) { required = s.found.required ++ record { pos = p; name = name; «module» = None } ∷ [] };
}

abbrev pub call_library : Pos → List ℕ → Pos → List ℕ → State → Outcome
call_library p name text_place text s = cond (bytes_eq name (codes "require")) (Ok (with_require text_place text s)) (use_library p name s)

-- ---- the step at each word

abbrev pub step : Event → State → Outcome
step says.block s = Ok (begin s.place s)
step says.loop s = Ok (begin_loop s)
step (says.function has_rest) s = Ok (begin_function has_rest s)
step says.finish s = Ok (back_to s.around s)
step (says.declare p name) s = declared_at p name s
step (says.appear n) s = Ok (appeared n s)
step (says.use_name p name) s = option_map_or (use_local false p s) (local_named name s) (use_library p name s)
step (says.assign_name p name) s = option_map_or (use_local true p s) (local_named name s) (assign_library p name)
step (says.use_field p name q key) s = option_map_or (use_local false p s) (local_named name s) (use_library_field p name q key s)
step (says.assign_field p name q key) s = option_map_or (use_local false p s) (local_named name s) (assign_library_field p name q key s)
step (says.call_text p name q text) s = option_map_or (use_local false p s) (local_named name s) (call_library p name q text s)
step (says.leave p) s = cond s.place.in_loop (Ok s) (refused code.S7 p)
step (says.vararg p) s = cond s.place.has_rest (Ok s) (refused code.S8 p)

-- the first refusal by place ends it
abbrev pub run : List Event → State → Outcome
run [] s = Ok s
run (e ∷ es) s = elim (step e s) [ Ok t ↦ run es t | Err r ↦ Err r ]
