use Rattle.lua_values.proofs.Arithmetic.{word-fits, word-same, word-differs}
use Rattle.lua_values.proofs.laws.words_wrap.Goals as goal

pub returns-clause-fits : goal.returns-clause-fits
returns-clause-fits c = word-fits

pub returns-clause-same : goal.returns-clause-same
returns-clause-same c = word-same

pub returns-clause-differs : goal.returns-clause-differs
returns-clause-differs c = word-differs
