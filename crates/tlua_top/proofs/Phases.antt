-- What holds of all endings that a phase has.
use Rattle.std.proofs.Common.{◌≡◌, inl, inr, refl, sym, ◌∙◌, ap, subst, Result, Ok, Err}
use Rattle.tl_base.specs.declared.refusal.Refusal.{Refusal}
use Rattle.tl_base.specs.declared.refusal.Failure.{Failure}
use Rattle.tl_base.specs.declared.refusal.Failure.TheVariants as failure
use Rattle.tlua_top.specs.declared.accept.Program.{Program}
use Rattle.tlua_top.specs.Words.{Text}
use Rattle.tlua_top.specs.Outcome.{Ending}
use Rattle.tlua_top.specs.Phases.{phase, refused}
use Rattle.tlua_top.specs.Asked.{Accepts}

-- the failure is a refusal of a phase, or want of memory
abbrev pub IsRefusedBy : (Refusal → Type 0) → Failure → Type 0
IsRefusedBy Refuses (failure.Refused r) = Refuses r
IsRefusedBy Refuses failure.NoMemory = Unit {0}

module _ {A : Type 0} (file : Text) (Refuses : Refusal → Type 0) (Gives : A → Type 0) (behind : A → Ending → Type 0) where
  -- a phase that gives something ends as the phases behind it do
  pub gives : (a : A) (ending : Ending) → Gives a → behind a ending → phase file Refuses Gives behind ending
  gives a ending g b = inr (a, g, b)

  pub refuses : (r : Refusal) → Refuses r → phase file Refuses Gives behind (refused file r)
  refuses r h = inl (r, h, refl)

  pub goes_on : (input : Text) (r : Result Program Failure) (a : A) → Gives a → Accepts (behind a) file input r → Accepts (phase file Refuses Gives behind) file input r
  goes_on input (Ok p) a g h = inr (a, g, h)
  goes_on input (Err (failure.Refused q)) a g h = inr (a, g, h)
  goes_on input (Err failure.NoMemory) a g h = tt

  pub stops : (input : Text) (f : Failure) → IsRefusedBy Refuses f → Accepts (phase file Refuses Gives behind) file input (Err f)
  stops input (failure.Refused r) h = refuses r h
  stops input failure.NoMemory h = tt

  -- a phase has one ending where it has one refusal or gives one thing, and never does both
  pub phase_once : ((q r : Refusal) → Refuses q → Refuses r → q ≡ r) → ((a b : A) → Gives a → Gives b → a ≡ b) → ((r : Refusal) (a : A) → Refuses r → Gives a → ⊥)
      → ((a : A) → Gives a → (x y : Ending) → behind a x → behind a y → x ≡ y) → (x y : Ending) → phase file Refuses Gives behind x → phase file Refuses Gives behind y → x ≡ y
  phase_once one_refusal one_gift never rest x y (inl h) (inl k) = h.2 ∙ ap (refused file) (one_refusal h.0 k.0 h.1 k.1) ∙ sym k.2
  phase_once one_refusal one_gift never rest x y (inl h) (inr k) = absurd (never h.0 k.0 h.1 k.1)
  phase_once one_refusal one_gift never rest x y (inr h) (inl k) = absurd (never k.0 h.0 k.1 h.1)
  phase_once one_refusal one_gift never rest x y (inr h) (inr k) = rest k.0 k.1 x y (subst (λ a. behind a x) (one_gift h.0 k.0 h.1 k.1) h.2) k.2

  -- what holds of each refusal, and of each ending of the phases behind, holds of each ending
  pub phase_all : (P : Ending → Type 0) → ((r : Refusal) → P (refused file r)) → ((a : A) → Gives a → (x : Ending) → behind a x → P x) → (x : Ending) → phase file Refuses Gives behind x → P x
  phase_all P of_refused rest x (inl h) = subst P (sym h.2) (of_refused h.0)
  phase_all P of_refused rest x (inr h) = rest h.0 h.1 x h.2
