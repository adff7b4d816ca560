use Rattle.lua_parser.proofs.Parsings.{typed_refused, read_behind}
use Rattle.lua_parser.proofs.refusals.own_fault.Goals as goal

pub returns-in-Ok : goal.returns-in-Ok
returns-in-Ok c =
    let source = c.args.source.now in
    let tokens = c.args.tokens.now in
    typed_refused c.args.kind source tokens c.args.left.now c.saturating_sub-behind.result c.in-Ok.goes (record { code = c.types_code.result; pos = c.pos.result }) c.requires.stops c.requires.shallow c.requires.some c.requires.own
    (read_behind c.args.kind source tokens c.args.left.now c.len.result c.saturating_sub.result c.saturating_sub-behind.result c.requires.stops c.requires.some c.len.ensures c.saturating_sub.ensures c.saturating_sub-behind.ensures)
    c.in-Ok.ensures c.types_code.ensures c.pos.ensures
