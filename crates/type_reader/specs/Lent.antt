-- The declarations of the code, which are lent from the tree, as the definition has them.
use Rattle.std.specs.Prelude.{List, map}
use Rattle.type_reader.specs.declared.declarations.Form as code_form
use Rattle.type_reader.specs.declared.declarations.Form.TheVariants as f
use Rattle.type_reader.specs.declared.declarations.Declaration as code_declaration
use Rattle.type_reader.specs.Declarations.{Declaration, Form, interface, alias}

abbrev pub form_of : code_form.Form → Form
form_of (f.Interface n fs) = interface n fs.now
form_of (f.Alias e) = alias e.now

abbrev pub declaration_of : code_declaration.Declaration → Declaration
declaration_of d = record { place = d.pos; name = d.name.now; form = form_of d.form }

abbrev pub declared_in : List code_declaration.Declaration → List Declaration
declared_in ds = map declaration_of ds
