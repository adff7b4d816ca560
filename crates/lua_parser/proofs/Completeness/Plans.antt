-- Laws of runs: where one plan goes on as another.
use Rattle.std.proofs.Common.{◌≡◌, Bool, true, false, ◌∷◌, Option, Some, None, Result, Err, refl, sym, ap, ◌∙◌}
use Rattle.std.specs.Prelude.{if◌then◌else◌}
use Rattle.tl_base.specs.declared.place.ModuleKind.{ModuleKind}
use Rattle.lua_parser.specs.Words.{Word, Words, Mark}
use Rattle.lua_parser.specs.Machine.Plan.{Item, Gives, Plan, done, want, want_name, read, Reply, stuck, ends, takes, onward}
use Rattle.lua_parser.specs.Machine.Steps.{is_mark, begun, going, both, step}
use Rattle.lua_parser.specs.Machine.Run.{meet, run}

pub onward_assoc : {A B C : Type 0} (p : Plan A) (f : A → Plan B) (g : B → Plan C) → onward (onward p f) g ≡ onward p (λ v. onward (f v) g)
onward_assoc (done a) f g = refl
onward_assoc (want m k) f g = λ i. want m (λ q. onward_assoc (k q) f g i)
onward_assoc (want_name k) f g = λ i. want_name (λ q. onward_assoc (k q) f g i)
onward_assoc (read j k) f g = λ i. read j (λ q. onward_assoc (k q) f g i)

-- what a reply at a word leads to
abbrev pub after : {A : Type 0} → ModuleKind → Word → Words → Reply A → Result A Words
after kind x ts stuck = Err (x ∷ ts)
after kind x ts (ends a) = Err (x ∷ ts)
after kind x ts (takes q) = run kind q ts

-- what a reply of a part at a word leads to
abbrev pub on : {A B : Type 0} → ModuleKind → Word → Words → Reply B → (B → Plan A) → Result A Words
on kind x ts stuck k = Err (x ∷ ts)
on kind x ts (ends v) k = run kind (k v) (x ∷ ts)
on kind x ts (takes p) k = run kind (onward p k) ts

pub if_false : {B : Type 0} (c : Bool) (a b : B) → c ≡ false → (if c then a else b) ≡ b
if_false true a b h = cc
if_false false a b h = refl

pub if_true : {B : Type 0} (c : Bool) (a b : B) → c ≡ true → (if c then a else b) ≡ a
if_true true a b h = refl
if_true false a b h = cc

module _ (kind : ModuleKind) {A : Type 0} where
  pub read_on : (j : Item) (k : Gives j → Plan A) (x : Word) (ts : Words) → run kind (read j k) (x ∷ ts) ≡ on kind x ts (step kind j x.pos x.kind) k
  read_on j k x ts = go (step kind j x.pos x.kind)
    where
      inner : (r : Reply A) → elim r as (λ y. Result A Words) [ stuck ↦ Err (x ∷ ts) | ends a ↦ Err (x ∷ ts) | takes q ↦ run kind q ts ] ≡ elim r as (λ y. Result A Words) [ stuck ↦ Err (x ∷ ts) | ends a ↦ Err (x ∷ ts) | takes q ↦ run kind q ts ]
      inner r = refl

      go : (r : Reply (Gives j)) → elim (elim r as (λ y. Reply A) [ stuck ↦ stuck | ends a ↦ meet kind (k a) x | takes p ↦ takes (onward p k) ]) as (λ y. Result A Words) [ stuck ↦ Err (x ∷ ts) | ends a ↦ Err (x ∷ ts) | takes q ↦ run kind q ts ] ≡ on kind x ts r k
      go stuck = refl
      go (ends a) = refl
      go (takes p) = refl

  -- a part that begins as another and goes on
  pub on_going : {B C : Type 0} (x : Word) (ts : Words) (o : Option (Plan B)) (f : B → Plan C) (k : C → Plan A) → on kind x ts (begun (going o f)) k ≡ on kind x ts (begun o) (λ v. onward (f v) k)
  on_going x ts None f k = refl
  on_going x ts (Some p) f k = ap (λ q. run kind q ts) (onward_assoc p f k)

  -- two parts in a row at the same word
  pub on_both : {B C : Type 0} (x : Word) (ts : Words) (r : Reply B) (f : B → Reply C) (g : B → Plan C) (k : C → Plan A) (h : B → Plan A) → ((v : B) → on kind x ts (f v) k ≡ run kind (h v) (x ∷ ts)) → ((v : B) → onward (g v) k ≡ h v)
      → on kind x ts (both r f g) k ≡ on kind x ts r h
  on_both x ts stuck f g k h a b = refl
  on_both x ts (ends v) f g k h a b = a v
  on_both x ts (takes p) f g k h a b = ap (λ q. run kind q ts) (onward_assoc p g k ∙ (λ i. onward p (λ v. b v i)))

  pub run_takes : (p q : Plan A) (x : Word) (ts : Words) → meet kind p x ≡ takes q → run kind p (x ∷ ts) ≡ run kind q ts
  run_takes p q x ts e = ap (after kind x ts) e

  -- a part that begins at a word as another part does
  pub begins_as : (j i : Item) (x : Word) (us : Words) (o : Option (Plan (Gives i))) (f : Gives i → Plan (Gives j)) (k : Gives j → Plan A) → step kind i x.pos x.kind ≡ begun o → step kind j x.pos x.kind ≡ begun (going o f)
      → run kind (read j k) (x ∷ us) ≡ run kind (read i (λ v. onward (f v) k)) (x ∷ us)
  begins_as j i x us o f k a b =
      read_on j k x us ∙ ap (λ r. on kind x us r k) b ∙ on_going x us o f k ∙ sym (read_on i (λ v. onward (f v) k) x us ∙ ap (λ r. on kind x us r (λ v. onward (f v) k)) a)

  pub want_on : {B : Type 0} (m : Mark) (v : B) (k : B → Plan A) (y : Word) (us : Words) → on kind y us (if is_mark m y.kind then takes (done v) else stuck) k ≡ run kind (want m λ _. k v) (y ∷ us)
  want_on m v k y us = go (is_mark m y.kind)
    where
      go : (c : Bool) → on kind y us (if c then takes (done v) else stuck) k ≡ after kind y us (if c then takes (k v) else stuck)
      go true = refl
      go false = refl
