-- The errors: the layer that each comes from, and its text (libyaml's own texts).
use Rattle.std.specs.Prelude.{ℕ, List, codes, Option, None, Some, Result, Ok, Err}
use Rattle.yaml_base.specs.declared.errors.yaml_error_t.{yaml_error_t}
use Rattle.yaml_base.specs.declared.errors.yaml_error_t.TheVariants.{ExpectedStreamStart, ExpectedDocumentStart, ExpectedDocumentEnd, ExpectedNode}
use Rattle.yaml_base.specs.declared.errors.yaml_error_t.TheVariants.{ExpectedNothing, IncompatibleVersion, TagHandleEmpty, TagHandleStart, TagHandleEnd}
use Rattle.yaml_base.specs.declared.errors.yaml_error_t.TheVariants.{TagHandleAlphabet, TagPrefixEmpty, DuplicateDirective, AnchorEmpty, AnchorAlphabet}
use Rattle.yaml_base.specs.declared.errors.yaml_error_t.TheVariants.{AliasEmpty, AliasAlphabet, TagEmpty, NoTagNorImplicit, TooDeep, WriteError, Memory}
use Rattle.yaml_base.specs.declared.errors.yaml_error_type_t.{yaml_error_type_t}
use Rattle.yaml_base.specs.declared.errors.yaml_error_type_t.TheVariants.{YAML_MEMORY_ERROR, YAML_WRITER_ERROR, YAML_EMITTER_ERROR}

-- the layer that a refusal comes from
abbrev pub error_type_of : yaml_error_t → yaml_error_type_t
error_type_of WriteError = YAML_WRITER_ERROR
error_type_of Memory = YAML_MEMORY_ERROR
error_type_of _ = YAML_EMITTER_ERROR

-- the text of a refusal; a refused growth has none
abbrev pub problem_text : yaml_error_t → List ℕ
problem_text ExpectedStreamStart = codes "expected STREAM-START"
problem_text ExpectedDocumentStart = codes "expected DOCUMENT-START or STREAM-END"
problem_text ExpectedDocumentEnd = codes "expected DOCUMENT-END"
problem_text ExpectedNode = codes "expected SCALAR, SEQUENCE-START, MAPPING-START, or ALIAS"
problem_text ExpectedNothing = codes "expected nothing after STREAM-END"
problem_text IncompatibleVersion = codes "incompatible %YAML directive"
problem_text TagHandleEmpty = codes "tag handle must not be empty"
problem_text TagHandleStart = codes "tag handle must start with '!'"
problem_text TagHandleEnd = codes "tag handle must end with '!'"
problem_text TagHandleAlphabet = codes "tag handle must contain alphanumerical characters only"
problem_text TagPrefixEmpty = codes "tag prefix must not be empty"
problem_text DuplicateDirective = codes "duplicate %TAG directive"
problem_text AnchorEmpty = codes "anchor value must not be empty"
problem_text AnchorAlphabet = codes "anchor value must contain alphanumerical characters only"
problem_text AliasEmpty = codes "alias value must not be empty"
problem_text AliasAlphabet = codes "alias value must contain alphanumerical characters only"
problem_text TagEmpty = codes "tag value must not be empty"
problem_text NoTagNorImplicit = codes "neither tag nor implicit flags are specified"
problem_text TooDeep = codes "nesting too deep"
problem_text WriteError = codes "write error"
problem_text Memory = codes ""

-- the text that an error prints: its own, or that memory ran out
abbrev pub display_text : yaml_error_t → List ℕ
display_text Memory = codes "out of memory"
display_text error = problem_text error

-- the error of a call; none if it succeeded
abbrev pub refused : {T : Type 0} → Result T yaml_error_t → Option yaml_error_t
refused (Ok _) = None
refused (Err error) = Some error
