-- The next stage.
use Rattle.std.specs.Prelude.{List}
use Rattle.yaml_base.specs.Event.{TagDirective}
use Rattle.yaml_base.specs.Steps.{Frame, Stage, at_stream, at_document, at_node, at_document_end, at_nothing}
use Rattle.yaml_emitter.specs.declared.stage.Stage as stage
use Rattle.yaml_emitter.specs.declared.stage.Stage.TheVariants.{Stream, Document, Node, DocumentEnd, Nothing}

-- the next stage, with the directives and the open collections of the document
abbrev pub seen_stage : stage.Stage → List TagDirective → List Frame → Stage
seen_stage Stream directives frames = at_stream
seen_stage (Document first) directives frames = at_document first
seen_stage Node directives frames = at_node directives frames
seen_stage DocumentEnd directives frames = at_document_end
seen_stage Nothing directives frames = at_nothing
