-- How calls begin.
use Rattle.std.proofs.Common.{◌≡◌, refl, sym, ap, subst, ◌∙◌, ℕ, zero, suc, ◌+◌, ◌-◌, ◌<◌, Bool, true, false, IsTrue, ◌↔◌, List, [], ◌∷◌, ◌++◌, map, take, length, rules, drop, replicate, slice_get, slice_index_or, append_assoc, Option, Some, None, arith}
use Rattle.std.proofs.lemmas.Grind.{common_steps}
use Rattle.tl_base.specs.declared.place.Pos.{Pos}
use Rattle.lua_tree.specs.declared.names.LibName.{LibName}
use Rattle.lua_meaning.specs.World.{World}
use Rattle.lua_meaning.specs.Trees.{adjust}
use Rattle.lua_meaning.specs.Calls.{printed}
use Rattle.lua_values.specs.Shown.{shown_text}
use Rattle.lua_values.specs.declared.value.Value.{Value}
use Rattle.lua_values.specs.declared.value.Value.TheVariants as value
use Rattle.lua_code.specs.declared.code.Proto.{Proto}
use Rattle.lua_code.specs.declared.frames.Slot.TheVariants as slot
use Rattle.lua_code.specs.Configurations.{Frame, Level, CodeClosure}
use Rattle.lua_code.specs.Steps.{called, overflow, further, frame_of}
use Rattle.lua_machine.specs.Calls.{printed_on}
use Rattle.lua_machine.specs.Frames.{Activity, fresh, entered, with_values, with_more_slots, slot_values}
use Rattle.lua_machine.proofs.Operands.{adjust_more, all_nil, map_append}

-- ---- what `print` writes

pub printed_first : (v : Value) (vs : List Value) → printed (v ∷ vs) ≡ shown_text v ++ printed_on vs
printed_first v [] = refl
printed_first v (u ∷ us) = ap (λ text. shown_text v ++ 9 ∷ text) (printed_first u us)

pub printed_from : (v : Value) (vs : List Value) → Some v ≡ slice_get vs 0 → printed vs ≡ shown_text v ++ printed_on (drop 1 vs)
printed_from v [] e = absurd (let f : Some v ≡ None = e in cc)
printed_from v (u ∷ us) e =
    let f : Some v ≡ Some u = e in
    let same : u ≡ v = cc in
    printed_first u us ∙ ap (λ w. shown_text w ++ printed_on us) same

-- ---- the slots of a function that begins

pub fill_step : (count at : ℕ) (vs : List Value) (v : Value) (a b g : Activity) → at < count → v ≡ slice_index_or vs at value.Nil
    → b ≡ with_more_slots (slot.Held v) a
    → with_values (adjust (count - at) (drop at vs)) a ≡ g
    → with_values (adjust (count - (at + 1)) (drop (at + 1) vs)) b ≡ g
fill_step count at vs v a b g less is_value is_more h =
    let more = adjust (count - (at + 1)) (drop (at + 1) vs) in
    ap (λ (x : Activity). with_values more x) is_more
    ∙ (ap (λ ss. record a { frame = record a.frame { slots = ss } }) (append_assoc a.frame.slots (slot.Held v ∷ []) (map (λ v. slot.Held v) more))
    ∙ (ap (λ us. with_values us a) (sym (adjust_more count at vs v less is_value)) ∙ h))

-- the arguments, and nil in the other slots
pub slots_filled : (proto : Proto) (vs : List Value) (a b d : Activity) (k : ℕ)
    → b ≡ with_values (adjust proto.params vs) a → k ≡ proto.slots - proto.params → d ≡ with_values (adjust k []) b
    → d ≡ with_values (slot_values proto vs) a
slots_filled proto vs a b d k is_b is_k is_d =
    let args = adjust proto.params vs in
    let all : (a.frame.slots ++ map (λ v. slot.Held v) args) ++ map (λ v. slot.Held v) (adjust k []) ≡ a.frame.slots ++ map (λ v. slot.Held v) (slot_values proto vs) =
    append_assoc a.frame.slots (map (λ v. slot.Held v) args) (map (λ v. slot.Held v) (adjust k []))
    ∙ ap (λ ss. a.frame.slots ++ ss) (sym (map_append (λ v. slot.Held v) args (adjust k [])) ∙ ap (λ us. map (λ v. slot.Held v) (args ++ us)) (all_nil k ∙ ap (λ n. replicate n value.Nil) is_k)) in
    is_d ∙ (ap (λ (x : Activity). with_values (adjust k []) x) is_b ∙ ap (λ ss. record a { frame = record a.frame { slots = ss } }) all)

-- a function that has its slots has begun
pub has_begun : (number : ℕ) (proto : Proto) (cells : List ℕ) (vs rest : List Value) (a b d : Activity)
    → rest ≡ further proto.vararg proto.params vs → b ≡ entered (fresh number cells rest) a → d ≡ with_values (slot_values proto vs) b
    → d ≡ entered (frame_of number proto cells vs) a
has_begun number proto cells vs rest a b d is_rest is_b is_d =
    is_d ∙ (ap (λ (x : Activity). with_values (slot_values proto vs) x) is_b
    ∙ ap (λ r. entered (record (fresh number cells r) { slots = map (λ v. slot.Held v) (slot_values proto vs) }) a) is_rest)

-- ---- no call more

pub full : (code : List Proto) (n : ℕ) (b : Bool) → b ≡ false → IsTrue b ↔ (0 < n)
    → (p : Pos) (name : LibName) (vs : List Value) (levels : List Level) (w : World) (ks : List CodeClosure)
    → called code n p (value.Builtin name) vs levels w ks ≡ overflow p levels w ks
full code zero b e iff p name vs levels w ks = refl
full code (suc n) true e iff p name vs levels w ks = absurd (let f : true ≡ false = e in cc)
full code (suc n) false e iff p name vs levels w ks = absurd (let f : false ≡ true = iff.1 (omega arith) in cc)

-- all behind the first value
pub behind_first : (vs : List Value) → take (length vs - 1) (drop 1 vs) ≡ drop 1 vs
behind_first vs = search (rules, common_steps)
