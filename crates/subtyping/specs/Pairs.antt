-- Pairs of types that are assumed to be below one another, and what a comparison that assumes more of them says.
use Rattle.std.specs.Prelude.{◌≡◌, ℕ, ◌<◌, ◌≤◌, Bool, true, false, List, ◌++◌, length, All, slice_get, slice_index_or, Some, Result, Ok, IfOk}
use Rattle.tl_base.specs.declared.memory.NoMemory.{NoMemory}
use Rattle.tl_types.specs.declared.types.Ty.{Ty}
use Rattle.tl_types.specs.Types.{Bodies}
use Rattle.tl_types.specs.Unions.{or_nil}
use Rattle.tl_types.specs.Below.{Test, step, below}
use Rattle.subtyping.specs.declared.pairs.Side.{Side}
use Rattle.subtyping.specs.declared.pairs.Side.TheVariants.{Of, WithNil}
use Rattle.subtyping.specs.declared.pairs.Pair.{Pair}

abbrev pub side_ty : Side → Ty
side_ty (Of t) = t.now
side_ty (WithNil t) = or_nil t.now

abbrev pub holds : Test → Pair → Bool
holds R p = R (side_ty p.left) (side_ty p.right)

-- the test holds of each pair that is still assumed
abbrev pub Trusts : Test → List Pair → Type 0
Trusts R pairs = All (λ p. p.alive ≡ true → holds R p ≡ true) pairs

-- each pair that was taken back fails at some depth
abbrev pub IsSound : Bool → Bodies → List Pair → Type 0
IsSound loose bodies pairs = All (λ p. p.alive ≡ false → (n : ℕ) × (holds (below loose bodies n) p ≡ false)) pairs

-- an answer to a question about components: true only where each test that the assumed pairs pass says so, and false only where it fails at some depth
pub record Verdict (loose : Bool) (bodies : Bodies) (pairs : List Pair) (claim : Test → Bool) (answer : Bool) : Type 0 where
  pub yes : answer ≡ true → (R : Test) → Trusts R pairs → claim R ≡ true
  pub no : answer ≡ false → (n : ℕ) × (claim (below loose bodies n) ≡ false)

-- a comparison that may have assumed more pairs
pub record Compared (loose : Bool) (bodies : Bodies) (old new : List Pair) (claim : Test → Bool) (answer : Result Bool NoMemory) : Type 0 where
  pub added : (more : List Pair) × (new ≡ old ++ more)
  pub grows : (R : Test) → Trusts R new → Trusts R old
  pub sound : IsSound loose bodies old → IsSound loose bodies new
  pub verdict : IsSound loose bodies old → IfOk answer (λ b. Verdict loose bodies new claim b)

-- the comparison of the pair holds wherever the assumed pairs do
abbrev pub Follows : Bool → Bodies → List Pair → Pair → Type 0
Follows loose bodies pairs p = (R : Test) → Trusts R pairs → step loose bodies R (side_ty p.left) (side_ty p.right) ≡ true

-- each of the first n pairs that is assumed follows from those that are
abbrev pub IsClosedTo : Bool → Bodies → List Pair → ℕ → Type 0
IsClosedTo loose bodies pairs n = (k : ℕ) → k < n → (p : Pair) → slice_get pairs k ≡ Some p → p.alive ≡ true → Follows loose bodies pairs p

-- what a sweep over the first n pairs that took nothing back leaves
pub record Kept (loose : Bool) (bodies : Bodies) (old new : List Pair) (n : ℕ) : Type 0 where
  pub within : n ≤ length new
  pub grows : (R : Test) → Trusts R new → Trusts R old
  pub closed : IsClosedTo loose bodies new n

-- what the comparison of pair k leaves; the answer says whether it was taken back
pub record Settled (loose : Bool) (bodies : Bodies) (old new : List Pair) (k : ℕ) (answer : Result Bool NoMemory) : Type 0 where
  pub sound : IsSound loose bodies new
  pub longer : length old ≤ length new
  pub added : answer ≡ Ok false → (more : List Pair) × (new ≡ old ++ more)
  pub grows : answer ≡ Ok false → (R : Test) → Trusts R new → Trusts R old
  pub closed : answer ≡ Ok false → (p : Pair) → slice_get old k ≡ Some p → p.alive ≡ true → Follows loose bodies new p

-- the pair at k has these sides
pub record IsPairAt (pairs : List Pair) (left right : Side) (k : ℕ) : Type 0 where
  pub within : k < length pairs
  pub lefts : (d : Pair) → side_ty (slice_index_or pairs k d).left ≡ side_ty left
  pub rights : (d : Pair) → side_ty (slice_index_or pairs k d).right ≡ side_ty right
