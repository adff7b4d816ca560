use Rattle.lua_code.specs.declared.code.Instr.TheVariants as instr
use Rattle.lua_machine.proofs.Walks.{paces_next, paces_raise, noted_one}
use Rattle.lua_machine.proofs.pacing.do_next.Goals as goal

pub returns-in_ok-pace-in-Call-clause-comes : goal.returns-in_ok-pace-in-Call-clause-comes
returns-in_ok-pace-in-Call-clause-comes c =
    paces_next c.args.functions.now c.args.state.now c.in-Some.instr.now instr.Call c.in-Some.place c.in-Some.ensures c.in-Call.is c.in_ok-pace-in-Call.pace c.do_call.new.state c.in_ok-pace-in-Call.ensures

pub returns-in_ok-pace-in-Return-clause-comes : goal.returns-in_ok-pace-in-Return-clause-comes
returns-in_ok-pace-in-Return-clause-comes c =
    paces_next c.args.functions.now c.args.state.now c.in-Some.instr.now instr.Return c.in-Some.place c.in-Some.ensures c.in-Return.is c.in_ok-pace-in-Return.pace c.do_return.new.state
    c.in_ok-pace-in-Return.ensures

pub returns-in_ok-copy-in-Raise : goal.returns-in_ok-copy-in-Raise
returns-in_ok-copy-in-Raise c = record {
  comes = paces_raise c.args.functions.now c.args.state.now c.act.new.state c.in-Some.instr.now c.in-Some.place c.in-Some.ensures c.in_ok-act-in_default-instr.field-0 c.in_ok-act-in_default-instr.ensures
      c.in_ok-copy-in-Raise.field-0 c.in-Raise.is c.in_ok-copy-in-Raise.ensures;
  traced = noted_one c.args.functions.now c.args.tracing.now.limit c.args.tracing.now.steps.items c.begin.new.self.steps.items c.args.state.now.frames.frame c.in-Some.instr.now c.in-Some.place c.in-Some.ensures
      c.function.result c.at.result c.function.ensures c.at.ensures c.in_ok-begin.ensures.steps;
  limit = search;
}
