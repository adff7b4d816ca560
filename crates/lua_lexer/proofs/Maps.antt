-- What holds of an answer holds of it in other words.
use Rattle.std.proofs.Common.{Option, Some, None, MatchOption, Result, Ok, Err, IfOk}

pub match_map : {A : Type 0} (r : Option A) {P R : Type 0} {Q S : A → Type 0} → (P → R) → ((x : A) → Q x → S x) → MatchOption r P Q → MatchOption r R S
match_map None f g h = f h
match_map (Some x) f g h = g x h

pub ok_map : {A E : Type 0} (r : Result A E) {P Q : A → Type 0} → ((x : A) → P x → Q x) → IfOk r P → IfOk r Q
ok_map (Ok x) f h = f x h
ok_map (Err e) f h = h
