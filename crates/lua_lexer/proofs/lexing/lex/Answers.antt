use Rattle.lua_lexer.proofs.Founds.{long_made}
use Rattle.lua_lexer.proofs.Laws.{only_tokens, only_refusal}
use Rattle.lua_lexer.proofs.lexing.lex.Goals as goal

pub returns-then-bytes-gt-MOST-clause-refused : goal.returns-then-bytes-gt-MOST-clause-refused
returns-then-bytes-gt-MOST-clause-refused c = long_made c.args.module c.args.bytes.now c.first.result c.pos.result c.pos.ensures c.first.ensures c.if-bytes-gt-MOST.true

pub returns-clause-only_tokens : goal.returns-clause-only_tokens
returns-clause-only_tokens c = λ ts l. only_tokens c.read.result c.read.ensures.ok c.read.ensures.refused l

pub returns-clause-only_refusal : goal.returns-clause-only_refusal
returns-clause-only_refusal c = λ r f. only_refusal c.read.result c.read.ensures.ok c.read.ensures.refused f
