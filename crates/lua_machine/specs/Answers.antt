-- What an operator of the machine answers, as the meaning of operators has it.
use Rattle.std.specs.Prelude.{ℕ, List}
use Rattle.lua_values.specs.declared.value.Value as value
use Rattle.lua_values.specs.declared.value.Value.TheVariants as held
use Rattle.lua_meaning.specs.Operators.{Answer, value_is, wrong_kind, fails, kind_name}
use Rattle.lua_machine.specs.declared.operators.Answered.{Answered}
use Rattle.lua_machine.specs.declared.operators.Answered.TheVariants.{Value, WrongKind, Fails}

abbrev pub answer_of : Answered → Answer
answer_of (Value v) = value_is v
answer_of (WrongKind what) = wrong_kind what
answer_of (Fails what) = fails what

-- the kind of the first of two values that is no integer
abbrev pub first_wrong : value.Value → value.Value → List ℕ
first_wrong (held.Int m) v = kind_name v
first_wrong u v = kind_name u
