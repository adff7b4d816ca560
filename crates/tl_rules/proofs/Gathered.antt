-- What a loop over types has seen of their members.
use Rattle.std.proofs.Common.{◌≡◌, ℕ, ◌+◌, ◌<◌, Bool, ◌&&◌, ◌||◌, List, [], ◌∷◌, ◌++◌, ap, ◌∙◌, length, get_or, take}
use Rattle.std.specs.Prelude.{flat_map}
use Rattle.std.specs.List.{list_all, list_any}
use Rattle.std.proofs.lemmas.List.{take_more}
use Rattle.std.proofs.lemmas.List.Folds.{list_all-append}
use Rattle.tl_types.specs.declared.types.Ty.{Ty}
use Rattle.tl_types.specs.Types.{members}
use Rattle.tl_types.proofs.Gathered.{flat_append, append_nil, seen_more}

pub some_more : (p : Ty → Bool) (ms : List Ty) (i : ℕ) (d : Ty) → i < length ms → list_any p (flat_map members (take (i + 1) ms)) ≡ (list_any p (flat_map members (take i ms)) || list_any p (members (get_or ms i d)))
some_more p ms i d in_list = seen_more p ms i d in_list

pub all_more : (p : Ty → Bool) (ms : List Ty) (i : ℕ) (d : Ty) → i < length ms → list_all p (flat_map members (take (i + 1) ms)) ≡ (list_all p (flat_map members (take i ms)) && list_all p (members (get_or ms i d)))
all_more p ms i d in_list =
    ap (list_all p) (ap (flat_map members) (take_more ms i d in_list) ∙ (flat_append members (take i ms) (get_or ms i d ∷ []) ∙ ap (λ r. flat_map members (take i ms) ++ r) (append_nil (members (get_or ms i d)))))
    ∙ list_all-append p (flat_map members (take i ms)) (members (get_or ms i d))
