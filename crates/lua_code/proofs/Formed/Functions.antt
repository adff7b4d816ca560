-- The functions of a program agree with their shapes.
use Rattle.std.proofs.Common.{◌≡◌, refl, ap, sym, subst, ◌∙◌, ℕ, zero, suc, ◌+◌, ◌≤◌, Bool, List, [], ◌∷◌, ◌++◌, length, map, replicate, slice_get, Option, Some, None, arith}
use Rattle.std.proofs.lemmas.List.{length-append, length-replicate, length-map, append_assoc}
use Rattle.std.specs.Map.{keys_of}
use Rattle.std.specs.Option.{is_some}
use Rattle.tl_base.specs.declared.place.Pos.{Pos}
use Rattle.lua_tree.specs.declared.annotation.Typed.{Typed}
use Rattle.lua_tree.specs.declared.annotation.TypeResults.{TypeResults}
use Rattle.lua_tree.specs.declared.syntax.Rest.{Rest}
use Rattle.lua_tree.specs.Tree as tree
use Rattle.lua_tree.specs.Tree.{Exp, Multi, Exps, Function, Stat, Clauses, Else, Step, Block}
use Rattle.lua_meaning.specs.Locals.{exp_locals, exps_locals, targets_locals, clauses_locals, step_locals, block_locals}
use Rattle.lua_code.specs.declared.code.Capture.{Capture}
use Rattle.lua_code.specs.declared.code.Capture.TheVariants as capture
use Rattle.lua_code.specs.declared.code.Proto.{Proto}
use Rattle.lua_code.specs.declared.code.Instr.{Instr}
use Rattle.lua_code.specs.declared.code.Instr.TheVariants as instr
use Rattle.lua_code.specs.Sizes.{operator_slots, block_size, block_declares, block_slots, exp_functions, exps_functions, step_functions, stat_functions, clauses_functions, block_functions}
use Rattle.lua_code.specs.Generated.{Placed, one, Scope, past, taken, declared, behind_stat, behind_block, outer_from, captures_in, inner_captured, inside, new_cells, body_code, proto_of, block_code, exp_protos, multi_protos, exps_protos, function_protos, step_protos, stat_protos, clauses_protos, else_protos, block_protos}
use Rattle.lua_code.specs.Shapes.{ItemKind, values, SlotKind, held, celled, Shape, IsInRange, FitsIf, effect_of, IsFunction}
use Rattle.lua_code.proofs.Faithful.Lists.{HasAt, has_front, has_next, has_all}
use Rattle.lua_code.proofs.Faithful.Lengths.{exp_count, exps_count, step_count, stat_count, clauses_count, block_count}
use Rattle.lua_code.proofs.Formed.Slots.{enough_same, meets_more, filled, filled_fewer, filled_first, get_there}
use Rattle.lua_code.proofs.Formed.Pieces.{shape, Accepts, accepted, nothing, Ahead, Piece, instrs_of, AllAgree, agree_all, to_end, less, join, plain}
use Rattle.lua_code.proofs.Formed.Scopes.{Fit, fit_next, fit_declared}
use Rattle.lua_code.proofs.Formed.Locals.{new_cells_ok}
use Rattle.lua_code.proofs.Formed.Statements.{block_ok}

-- the instruction at a place agrees
agree_at : (code : List Proto) (proto : Proto) (instrs : List Instr) (all : List Shape) (base : ℕ) (is : Placed) (ss : List Shape) → AllAgree code proto instrs all base is ss
    → (k : ℕ) (i : Instr) (s : Shape) → slice_get (instrs_of is) k ≡ Some i → slice_get ss k ≡ Some s → IsInRange code proto i × FitsIf instrs all (base + k) s (effect_of code (base + k) s.stack i)
agree_at code proto instrs all base [] ss h k i s e f = absurd (let g : None ≡ Some i = e in Prim.cc)
agree_at code proto instrs all base (x ∷ is) [] h k i s e f = absurd h
agree_at code proto instrs all base (x ∷ is) (t ∷ ss) h zero i s e f =
    let same : x.0 ≡ i = (let g : Some x.0 ≡ Some i = e in Prim.cc) in
    let same2 : t ≡ s = (let g : Some t ≡ Some s = f in Prim.cc) in
    let here : base ≡ base + 0 = Prim.omega arith in
    subst (λ y. IsInRange code proto y × FitsIf instrs all (base + 0) s (effect_of code (base + 0) s.stack y)) same
    (subst (λ y. IsInRange code proto x.0 × FitsIf instrs all (base + 0) y (effect_of code (base + 0) y.stack x.0)) same2
    (subst (λ y. IsInRange code proto x.0 × FitsIf instrs all y t (effect_of code y t.stack x.0)) here h.0))
agree_at code proto instrs all base (x ∷ is) (t ∷ ss) h (suc k) i s e f =
    let there : base + 1 + k ≡ base + suc k = Prim.omega arith in
    subst (λ y. IsInRange code proto i × FitsIf instrs all y s (effect_of code y s.stack i)) there (agree_at code proto instrs all (base + 1) is ss h.1 k i s e f)

agree_first : (code : List Proto) (proto : Proto) (instrs : List Instr) (all : List Shape) (is : Placed) (ss : List Shape) → AllAgree code proto instrs all 0 is ss
    → (k : ℕ) (i : Instr) (s : Shape) → slice_get (instrs_of is) k ≡ Some i → slice_get ss k ≡ Some s → IsInRange code proto i × FitsIf instrs all k s (effect_of code k s.stack i)
agree_first code proto instrs all is ss h k i s e f =
    let there : 0 + k ≡ k = Prim.omega arith in
    subst (λ y. IsInRange code proto i × FitsIf instrs all y s (effect_of code y s.stack i)) there (agree_at code proto instrs all 0 is ss h k i s e f)

-- a function is a piece and a `Return` behind it
record Whole (code : List Proto) (proto : Proto) (is : Placed) (s : Shape) : Type 0 where
  shapes : List Shape
  each : length shapes ≡ length is
  begins : Accepts shapes 0 s
  agree : AllAgree code proto (instrs_of is) shapes 0 is shapes

closed_by_return : (code : List Proto) (proto : Proto) (front : Placed) (p : Pos) (mid : ℕ) (s : Shape) (st : List ItemKind) (ks : List SlotKind) → Piece code proto nothing front 0 mid s (shape (values ∷ st) ks)
    → Whole code proto (front ++ one instr.Return p) s
closed_by_return code proto front p mid s st ks g =
    let last : Shape = shape (values ∷ st) ks in
    let all : List Shape = g.shapes ++ last ∷ [] in
    let is : Placed = front ++ one instr.Return p in
    let long : length g.shapes ≡ length front = g.each in
    let size : 0 + length front ≡ mid = g.size in
    let there : slice_get all mid ≡ Some last = subst (λ z. slice_get all z ≡ Some last) (Prim.omega (arith, long, size)) (get_there g.shapes last []) in
    let entered : Accepts all mid last = accepted all mid last there in
    let here : HasAt is 0 is = has_all is [] in
    let shapes : HasAt all 0 all = has_all all [] in
    let here2 : HasAt is 0 front = has_front is 0 front (one instr.Return p) here in
    let shapes2 : HasAt all 0 g.shapes = has_front all 0 g.shapes (last ∷ []) shapes in record {
      shapes = all;
      each = Prim.omega (arith, length-append g.shapes (last ∷ []), length-append front (one instr.Return p), long);
      begins = g.enters all shapes2 entered;
      agree = agree_all code proto (instrs_of is) all 0 mid front (one instr.Return p) g.shapes (last ∷ []) long size (g.fits is all here2 shapes2 entered tt) ((tt, record { below = st; stack = refl; slots = tt; ways = tt }), tt);
    }

-- ---- one function

module _ (code : List Proto) where
  pub function_formed : (params : ℕ) (vararg : Bool) (captures : List Capture) (slots : ℕ) (b : Block) (p : Pos) (sc : Scope) (base : ℕ) → params + block_slots b ≤ slots → length captures ≡ length sc.captured
      → Fit (proto_of params vararg captures slots (body_code params b p sc base)) sc (replicate params celled) → HasAt code base (block_protos b sc base) → IsFunction code (proto_of params vararg captures slots (body_code params b p sc base))
  function_formed params vararg captures slots b p sc base le caught f has =
      let is : Placed = body_code params b p sc base in
      let proto : Proto = proto_of params vararg captures slots is in
      let end : ℕ = params + block_size b in
      let known : List SlotKind = replicate params celled in
      let count : length known ≡ params = length-replicate params celled in
      let locals : List SlotKind = replicate (block_declares b) celled in
      let first : Shape = shape [] (filled slots (replicate params held)) in
      let s : Shape = shape [] (filled slots known) in
      let nc : Placed = new_cells 0 params p in
      let cb : Placed = block_code b sc base params end in
      let cells : Piece code proto nothing nc 0 (0 + params) first s = new_cells_ok code proto slots nothing params 0 p 0 [] [] refl (Prim.omega (arith, le)) in
      let inner : Piece code proto nothing cb params end s s =
      to_end code proto (Ahead end s) nothing cb params end s s (λ w all l g. l)
      (less code proto (Ahead end s) cb params end s [] (filled slots (known ++ locals)) (filled slots known) (filled_fewer slots known locals)
      (block_ok code proto slots b sc base params end known known has f (Prim.omega (arith, le, count)) (Prim.omega arith) (enough_same (filled slots known)))) in
      let empty : Piece code proto nothing (one (instr.Pack 0) p) end (end + 1) s (shape (values ∷ []) (filled slots known)) = plain code proto nothing (instr.Pack 0) p end [] (values ∷ []) [] [] [] (filled slots known) tt refl tt in
      let front : Placed = nc ++ (cb ++ one (instr.Pack 0) p) in
      let before : Piece code proto nothing front 0 (end + 1) first (shape (values ∷ []) (filled slots known)) = join code proto cells (join code proto inner empty refl refl) (Prim.omega arith) refl in
      let same : front ++ one instr.Return p ≡ is = append_assoc nc (cb ++ one (instr.Pack 0) p) (one instr.Return p) ∙ ap (λ l. nc ++ l) (append_assoc cb (one (instr.Pack 0) p) (one instr.Return p)) in
      let whole : Whole code proto is first = subst (λ l. Whole code proto l first) same (closed_by_return code proto front p (end + 1) first [] (filled slots known) before) in record {
        params = Prim.omega (arith, le);
        places = length-map is (λ c. c.1) ∙ sym (length-map is (λ c. c.0));
        shapes = whole.shapes;
        each = whole.each ∙ sym (length-map is (λ c. c.0));
        begins = meets_more (slice_get whole.shapes 0) [] (replicate slots held) (filled slots (replicate params held)) (filled_first slots params) whole.begins;
        agree = λ k i t e h. agree_first code proto (instrs_of is) whole.shapes is whole.shapes whole.agree k i t e h;
      }

  -- ---- all functions

  abbrev pub Every : List Proto → Type 0
  Every [] = Unit {0}
  Every (q ∷ qs) = IsFunction code q × Every qs

  pub every_join : (a b : List Proto) → Every a → Every b → Every (a ++ b)
  every_join [] b h k = k
  every_join (q ∷ a) b h k = (h.0, every_join a b h.1 k)

  pub every_at : (qs : List Proto) (i : ℕ) (q : Proto) → Every qs → slice_get qs i ≡ Some q → IsFunction code q
  every_at [] i q h e = absurd (let g : None ≡ Some q = e in Prim.cc)
  every_at (x ∷ qs) zero q h e = let same : x ≡ q = (let g : Some x ≡ Some q = e in Prim.cc) in subst (λ z. IsFunction code z) same h.0
  every_at (x ∷ qs) (suc i) q h e = every_at qs i q h.1 e

  -- the functions of two parts, one behind the other
  both : (a b : List Proto) (base next n : ℕ) → base + n ≡ next → length a ≡ n → (HasAt code base a → Every a) → (HasAt code next b → Every b) → HasAt code base (a ++ b) → Every (a ++ b)
  both a b base next n e count f g has = every_join a b (f (has_front code base a b has)) (g (has_next code base next a b (Prim.omega (arith, e, count)) has))

  outer_long : (i : ℕ) (xs : List ℕ) → length (outer_from i xs) ≡ length xs
  outer_long i [] = refl
  outer_long i (x ∷ xs) = ap suc (outer_long (i + 1) xs)

  captures_long : (own : List (ℕ × ℕ)) (captured : List ℕ) → length (map (λ o. capture.Cell o.1) own ++ outer_from 0 captured) ≡ length (keys_of own ++ captured)
  captures_long [] captured = outer_long 0 captured
  captures_long (o ∷ own) captured = ap suc (captures_long own captured)

  function_every : (ps : List Typed) (rest : Option Rest) (rs : Option TypeResults) (b : Block) (p : Pos) (sc : Scope) (base : ℕ) → ((sc : Scope) (base : ℕ) → HasAt code base (block_protos b sc base) → Every (block_protos b sc base))
      → HasAt code base (function_protos (tree.function_of ps rest rs b) p sc base) → Every (function_protos (tree.function_of ps rest rs b) p sc base)
  function_every ps rest rs b p sc base ok has =
      let n : ℕ = length ps in
      let inner : Scope = inside n sc in
      let front : Scope = record sc { own = []; captured = inner_captured sc; free = 0 } in
      let is : Placed = body_code n b p inner base in
      let made : Proto = proto_of n (is_some rest) (captures_in sc) (n + block_slots b) is in
      let caught : length (captures_in sc) ≡ length (inner_captured sc) = captures_long sc.own sc.captured in
      let there : HasAt code base (block_protos b inner base) = has_front code base (block_protos b inner base) (made ∷ []) has in
      let fit : Fit made inner (replicate n celled) = fit_next made (declared n front) (replicate n celled) (sc.next + n) (fit_declared made front [] n (record { free = refl; cells = tt; captures = caught })) in
      every_join (block_protos b inner base) (made ∷ []) (ok inner base there) (function_formed n (is_some rest) (captures_in sc) (n + block_slots b) b p inner base (Prim.omega arith) caught fit there, tt)

  mutual
    exp_every : (e : Exp) (sc : Scope) (base : ℕ) → HasAt code base (exp_protos e sc base) → Every (exp_protos e sc base)
    exp_every (tree.nothing p) sc base has = tt
    exp_every (tree.truth p b) sc base has = tt
    exp_every (tree.integer p n) sc base has = tt
    exp_every (tree.text p s) sc base has = tt
    exp_every (tree.function p (tree.function_of ps rest rs b)) sc base has = function_every ps rest rs b p sc base (block_every b) has
    exp_every (tree.name p u s) sc base has = tt
    exp_every (tree.paren p e) sc base has = exp_every e sc base has
    exp_every (tree.field p e n) sc base has = tt
    exp_every (tree.index p e k) sc base has = tt
    exp_every (tree.table p es) sc base has = tt
    exp_every (tree.unary p o e) sc base has = exp_every e sc base has
    exp_every (tree.binary p o a b) sc base has =
        let sb : Scope = taken (operator_slots o) (past (exp_locals a) sc) in
        both (exp_protos a sc base) (exp_protos b sb (base + exp_functions a)) base (base + exp_functions a) (exp_functions a) refl (exp_count a sc base) (exp_every a sc base) (exp_every b sb (base + exp_functions a)) has
    exp_every (tree.mark k e) sc base has = exp_every e sc base has
    exp_every (tree.one_of m) sc base has = multi_every m sc base has

    multi_every : (m : Multi) (sc : Scope) (base : ℕ) → HasAt code base (multi_protos m sc base) → Every (multi_protos m sc base)
    multi_every (tree.vararg p) sc base has = tt
    multi_every (tree.call p f es) sc base has =
        let sb : Scope = past (exp_locals f) sc in
        both (exp_protos f sc base) (exps_protos es sb (base + exp_functions f)) base (base + exp_functions f) (exp_functions f) refl (exp_count f sc base) (exp_every f sc base) (exps_every es sb (base + exp_functions f)) has
    multi_every (tree.method p e n es) sc base has = tt
    multi_every (tree.mark_all k m) sc base has = multi_every m sc base has

    exps_every : (es : Exps) (sc : Scope) (base : ℕ) → HasAt code base (exps_protos es sc base) → Every (exps_protos es sc base)
    exps_every tree.none sc base has = tt
    exps_every (tree.ends m) sc base has = multi_every m sc base has
    exps_every (tree.more e es) sc base has =
        let sb : Scope = past (exp_locals e) sc in
        both (exp_protos e sc base) (exps_protos es sb (base + exp_functions e)) base (base + exp_functions e) (exp_functions e) refl (exp_count e sc base) (exp_every e sc base) (exps_every es sb (base + exp_functions e)) has

    step_every : (c : Step) (sc : Scope) (base : ℕ) → HasAt code base (step_protos c sc base) → Every (step_protos c sc base)
    step_every tree.no_step sc base has = tt
    step_every (tree.step e) sc base has = exp_every e sc base has

    stat_every : (s : Stat) (sc : Scope) (base : ℕ) → HasAt code base (stat_protos s sc base) → Every (stat_protos s sc base)
    stat_every (tree.empty p) sc base has = tt
    stat_every (tree.assign p ts es) sc base has = exps_every es (past (targets_locals ts) sc) base has
    stat_every (tree.run p e) sc base has = exp_every e sc base has
    stat_every (tree.leave p) sc base has = tt
    stat_every (tree.scope p b) sc base has = block_every b sc base has
    stat_every (tree.while p e b) sc base has =
        let sb : Scope = past (exp_locals e) sc in
        both (block_protos b sb base) (exp_protos e sc (base + block_functions b)) base (base + block_functions b) (block_functions b) refl (block_count b sb base) (block_every b sb base) (exp_every e sc (base + block_functions b)) has
    stat_every (tree.repeat p b e) sc base has =
        let se : Scope = record (behind_block b sc) { next = sc.next + block_locals b } in
        both (block_protos b sc base) (exp_protos e se (base + block_functions b)) base (base + block_functions b) (block_functions b) refl (block_count b sc base) (block_every b sc base) (exp_every e se (base + block_functions b)) has
    stat_every (tree.choose p cs b) sc base has =
        let sb : Scope = past (clauses_locals cs) sc in
        both (clauses_protos cs sc base) (else_protos b sb (base + clauses_functions cs)) base (base + clauses_functions cs) (clauses_functions cs) refl (clauses_count cs sc base) (clauses_every cs sc base) (else_every b sb (base + clauses_functions cs)) has
    stat_every (tree.count p n a b c d) sc base has =
        let sb : Scope = taken 1 (past (1 + exp_locals a) sc) in
        let scc : Scope = taken 2 (past (1 + exp_locals a + exp_locals b) sc) in
        let sd : Scope = record (declared 1 (taken 3 sc)) { next = sc.next + (1 + exp_locals a + exp_locals b + step_locals c) } in
        let b1 : ℕ = base + exp_functions a in
        let b2 : ℕ = b1 + exp_functions b in
        let b3 : ℕ = b2 + step_functions c in
        both (exp_protos a (past 1 sc) base) (exp_protos b sb b1 ++ (step_protos c scc b2 ++ block_protos d sd b3)) base b1 (exp_functions a) refl (exp_count a (past 1 sc) base) (exp_every a (past 1 sc) base)
        (both (exp_protos b sb b1) (step_protos c scc b2 ++ block_protos d sd b3) b1 b2 (exp_functions b) refl (exp_count b sb b1) (exp_every b sb b1)
        (both (step_protos c scc b2) (block_protos d sd b3) b2 b3 (step_functions c) refl (step_count c scc b2) (step_every c scc b2) (block_every d sd b3))) has
    stat_every (tree.each p ns es b) sc base has =
        let sb : Scope = record (declared (length ns) (taken 3 sc)) { next = sc.next + (length ns + exps_locals es) } in
        both (exps_protos es (past (length ns) sc) base) (block_protos b sb (base + exps_functions es)) base (base + exps_functions es) (exps_functions es) refl (exps_count es (past (length ns) sc) base) (exps_every es (past (length ns) sc) base) (block_every b sb (base + exps_functions es)) has
    stat_every (tree.define p e f) sc base has = exp_every f (past (exp_locals e) sc) base has
    stat_every (tree.define_method p e n f) sc base has = tt
    stat_every (tree.declare_function p n f) sc base has = exp_every f (past 1 (declared 1 sc)) base has
    stat_every (tree.declare p ns es) sc base has = exps_every es (past (length ns) sc) base has
    stat_every (tree.interface p n fs) sc base has = tt
    stat_every (tree.alias p n t) sc base has = tt

    clauses_every : (cs : Clauses) (sc : Scope) (base : ℕ) → HasAt code base (clauses_protos cs sc base) → Every (clauses_protos cs sc base)
    clauses_every tree.no_clause sc base has = tt
    clauses_every (tree.clause e b cs) sc base has =
        let sb : Scope = past (exp_locals e) sc in
        let sr : Scope = past (exp_locals e + block_locals b) sc in
        let b1 : ℕ = base + exp_functions e in
        let b2 : ℕ = b1 + block_functions b in
        both (exp_protos e sc base) (block_protos b sb b1 ++ clauses_protos cs sr b2) base b1 (exp_functions e) refl (exp_count e sc base) (exp_every e sc base)
        (both (block_protos b sb b1) (clauses_protos cs sr b2) b1 b2 (block_functions b) refl (block_count b sb b1) (block_every b sb b1) (clauses_every cs sr b2)) has

    else_every : (b : Else) (sc : Scope) (base : ℕ) → HasAt code base (else_protos b sc base) → Every (else_protos b sc base)
    else_every tree.no_else sc base has = tt
    else_every (tree.else_do b) sc base has = block_every b sc base has

    pub block_every : (b : Block) (sc : Scope) (base : ℕ) → HasAt code base (block_protos b sc base) → Every (block_protos b sc base)
    block_every tree.finish sc base has = tt
    block_every (tree.returns p es) sc base has = exps_every es sc base has
    block_every (tree.next s b) sc base has =
        let sb : Scope = behind_stat s sc in
        both (stat_protos s sc base) (block_protos b sb (base + stat_functions s)) base (base + stat_functions s) (stat_functions s) refl (stat_count s sc base) (stat_every s sc base) (block_every b sb (base + stat_functions s)) has
