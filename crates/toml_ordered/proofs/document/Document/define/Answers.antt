use Rattle.toml_ordered.proofs.Common.{key_view, document_view}
use Rattle.toml_ordered.proofs.Defining.{other_defines, value_defines}
use Rattle.toml_ordered.proofs.document.Document.define.Goals as goal

pub returns-in-Value : goal.returns-in-Value
returns-in-Value c =
    value_defines (document_view c.args.self.now) (document_view c.define_pair.new.self) (key_view c.args.expression.0) c.args.left c.args.self.now.root
    c.define_pair.new.self.root c.define_pair.result c.args.expression.1 c.in-Value.node c.in-Value.is c.define_pair.ensures

pub returns-in_default : goal.returns-in_default
returns-in_default c =
    other_defines (document_view c.args.self.now) (document_view c.define_header.new.self) (key_view c.args.expression.0) c.args.left c.args.self.now.root
    c.define_header.new.self.root c.define_header.result c.args.expression.1 c.in_default.not-Value c.define_header.ensures
