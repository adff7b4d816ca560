-- What a module's text says of names: where scopes begin and end, which locals are declared, which names are used.
use Rattle.std.specs.Prelude.{ℕ, Bool, List}
use Rattle.tl_base.specs.declared.place.Pos.{Pos}

pub data Event : Type 0 where
  -- a block begins
  block : Event
  -- a loop's variables and body begin
  loop : Event
  -- a function's parameters and body begin, with `...` among the parameters or without
  function : (has_rest : Bool) → Event
  -- the innermost block, loop or function ends, and what it declared with it
  finish : Event
  -- a local's name, which isn't visible yet
  declare : Pos → List ℕ → Event
  -- so many of the names that were declared last become visible
  appear : ℕ → Event
  -- a name whose value is wanted, or that is assigned
  use_name : Pos → List ℕ → Event
  assign_name : Pos → List ℕ → Event
  -- a name and the key behind it, `name.key`, wanted or assigned
  use_field : Pos → List ℕ → Pos → List ℕ → Event
  assign_field : Pos → List ℕ → Pos → List ℕ → Event
  -- a name that is called with one literal string, and that string
  call_text : Pos → List ℕ → Pos → List ℕ → Event
  -- `break`
  leave : Pos → Event
  -- `...`
  vararg : Pos → Event
