-- The effects of calls that give a value to a writer, by their results.
use Rattle.std.specs.Prelude.{◌≡◌, ℕ, false, Option, None, Result, Ok, Err, List, [], length, take}
use Rattle.yaml_pen.specs.Wrote.{Grows}
use Rattle.yaml_emitter.specs.State.{State, bytes_taken}
use Rattle.yaml_writer.specs.Writing.{WriterState, awaits_node, opening}
use Rattle.yaml_serde.specs.Documents.{AppendsBeginning, GivesEvents, SendsEvents}
use Rattle.yaml_serde.specs.Forms.{Form}
use Rattle.yaml_serde.specs.declared.error.Error.{Error}

-- ---- a value that stays with the writer

-- the events of some calls were given, in this form; what was written before stays, and so does what was open
pub record GavePart (form : Form) (before after : WriterState) : Type 0 where
  pub gives : GivesEvents form before.emitter after.emitter
  pub grows : Grows before.emitter.page after.emitter.page
  pub canonical : after.canonical ≡ before.canonical
  pub above : take (length before.levels) after.levels ≡ before.levels

-- they are whole: nothing else is open, no anchor and no tag awaits its node, and the emitter has no error
pub record GaveValue (form : Form) (before after : WriterState) : Type 0 where
  pub part : GavePart form before after
  pub whole : (after.levels ≡ before.levels) × (awaits_node after ≡ false)
  pub sound : after.emitter.error ≡ None

-- a value was given; or, with an error, a part of it
abbrev pub GivesValue : Form → WriterState → Result (Unit {0}) Error → WriterState → Type 0
GivesValue form before (Ok done) after = GaveValue form before after
GivesValue form before (Err error) after = GavePart form before after

-- ---- a value that is handed on to a sink

-- if a document began in the emitter, and nothing was taken, the known bytes of the sink grow by a beginning of one
abbrev pub SendsBeginning : Form → Option (List ℕ) → State → Option (List ℕ) → Type 0
SendsBeginning form held before now = before.events ≡ opening → bytes_taken before ≡ [] → AppendsBeginning before.given form held now

-- the sink was handed on what is taken of the emitter's output
pub record SentValue (form : Form) (held : Option (List ℕ)) (before : State) (now : Option (List ℕ)) (after : State) : Type 0 where
  pub whole : SendsEvents form held before now after
  pub first : SendsBeginning form held before now

-- a value was given and handed on; or, with an error, a beginning of it
abbrev pub SendsValue : Form → Option (List ℕ) → State → Result (Unit {0}) Error → Option (List ℕ) → State → Type 0
SendsValue form held before (Ok done) now after = SentValue form held before now after
SendsValue form held before (Err error) now after = SendsBeginning form held before now
