-- The words of the code as the definition has them.
use Rattle.lua_scope.specs.declared.words.Word as code_word
use Rattle.lua_scope.specs.declared.words.Event as code_event
use Rattle.lua_scope.specs.declared.words.Event.TheVariants as e
use Rattle.lua_tree.specs.Scopes.Events as says
use Rattle.lua_tree.specs.Scopes.Events.{Event}
use Rattle.lua_tree.specs.Scopes.Trees.{Word}

abbrev pub word_of : code_word.Word → Word
word_of w = record { pos = w.pos; text = w.text.now }

abbrev pub event_of : code_event.Event → Event
event_of e.Block = says.block
event_of e.Loop = says.loop
event_of (e.Function has_rest) = says.function has_rest
event_of e.Finish = says.finish
event_of (e.Declare w) = says.declare w.pos w.text.now
event_of (e.Appear n) = says.appear n
event_of (e.UseName w) = says.use_name w.pos w.text.now
event_of (e.AssignName w) = says.assign_name w.pos w.text.now
event_of (e.UseField w k) = says.use_field w.pos w.text.now k.pos k.text.now
event_of (e.AssignField w k) = says.assign_field w.pos w.text.now k.pos k.text.now
event_of (e.CallText w t) = says.call_text w.pos w.text.now t.pos t.text.now
event_of (e.Leave p) = says.leave p
event_of (e.Vararg p) = says.vararg p
