-- The outlets for the bytes of a document, and what was written of it so far.
use Rattle.std.specs.Io.KnownBytes.{Appends}
use Rattle.std.specs.Prelude.{◌≡◌, ℕ, Bool, true, false, Option, None, Result, Ok, Err, List, [], ◌++◌, length}
use Rattle.std.specs.Borrow.{GName}
use Rattle.yaml_base.specs.Prefix.{IsPrefix}
use Rattle.yaml_pen.specs.Page.{output_left}
use Rattle.yaml_base.specs.Sinks.{AppendsFirst}
use Rattle.yaml_base.specs.declared.kinds.CollectionKind.{CollectionKind}
use Rattle.yaml_emitter.specs.State.{State, bytes_taken, new_state, with_all_taken}
use Rattle.yaml_writer.specs.WasGiven.{levels_after}
use Rattle.yaml_writer.specs.Writing.{WriterState}
use Rattle.yaml_serde.specs.Documents.{GaveEvents}
use Rattle.yaml_serde.specs.Forms.{Form, form_for_values}
use Rattle.yaml_serde.specs.declared.error.Error.{Error}
use Rattle.yaml_serde.specs.declared.error.Cause.{Cause}
use Rattle.yaml_serde.specs.declared.error.Cause.TheVariants as causes
use Rattle.yaml_serde.specs.declared.outlet.Handing.{Handing}
use Rattle.yaml_serde.specs.declared.outlet.Handing.TheVariants.{Kept, Open, Failed}
use Rattle.yaml_serde.specs.declared.outlet.Outlet.{Outlet}

-- an error by this cause, of which no path is known
abbrev pub without_path : Cause → Error
without_path cause = record { cause = cause; path = None }

-- whether the bytes stay with the writer
abbrev pub is_kept : Handing → Bool
is_kept Kept = true
is_kept Open = false
is_kept (Failed error) = false

-- whether the sink failed
abbrev pub has_failed : Handing → Bool
has_failed Kept = false
has_failed Open = false
has_failed (Failed error) = true

-- ---- one step

-- all that is left of the writer's output was handed on, and is taken
pub record HandsAll {W : Type 0} (contents : W → Option (List ℕ)) (old : Outlet W) (before : WriterState) (new : Outlet W)
    (after : WriterState) : Type 0 where
  pub sends : Appends (contents old.sink.now) (contents new.sink.now) (output_left before.emitter.page)
  pub writer : after ≡ record before { emitter = with_all_taken before.emitter }
  pub stays : new.handing ≡ old.handing

-- the sink failed, with a beginning of what is left of the writer's output
pub record HandsFirst {W : Type 0} (contents : W → Option (List ℕ)) (old : Outlet W) (before : WriterState) (new : Outlet W)
    (after : WriterState) : Type 0 where
  pub sends : AppendsFirst (contents old.sink.now) (contents new.sink.now) (output_left before.emitter.page)
  pub writer : after ≡ before
  pub fails : has_failed new.handing ≡ true

-- nothing changed
pub record HandsNone {W : Type 0} (old : Outlet W) (before : WriterState) (new : Outlet W) (after : WriterState) : Type 0 where
  pub outlet : new ≡ old
  pub writer : after ≡ before

-- the rest of the writer's output was handed on, all of it, or a beginning if the sink failed; nothing, if the bytes stay with the
-- writer, or the sink failed before
abbrev pub HandsOn :
    {W : Type 0} → (W → Option (List ℕ)) → Handing → Outlet W → WriterState → Result (Unit {0}) Error → Outlet W → WriterState → Type 0
HandsOn contents Kept old before answer new after = (answer ≡ Ok tt) × HandsNone old before new after
HandsOn contents (Failed error) old before answer new after = (answer ≡ Err (without_path (causes.Sink error))) × HandsNone old before new after
HandsOn contents Open old before (Ok done) new after = HandsAll contents old before new after
HandsOn contents Open old before (Err error) new after = HandsFirst contents old before new after

-- ---- the whole document so far

-- a sink, which held others before, was handed these bytes, which are taken of the writer's output, and some more if it failed;
-- none, if the bytes stay with the writer
pub record Handed {W : Type 0} (contents : W → Option (List ℕ)) (held : Option (List ℕ)) (outlet : Outlet W) (taken more : List ℕ) : Type 0 where
  pub sends : Appends held (contents outlet.sink.now) (taken ++ more)
  pub none : has_failed outlet.handing ≡ false → more ≡ []
  pub kept : is_kept outlet.handing ≡ true → taken ≡ []

-- the state before a document: its writer and the name of the reference to it, the bytes of its sink if they are known and the name
-- of the reference to that, whether the document's bytes stay with the writer, and the form of its collections
pub record Outside : Type 0 where
  pub start : WriterState
  pub lent : GName
  pub held : Option (List ℕ)
  pub name : GName
  pub keeps : Bool
  pub form : Form

-- of which nothing is known
abbrev pub some_outside : Outside
some_outside =
    record {
      start = record { emitter = new_state; canonical = false; levels = []; anchor = None; tag = None };
      lent = 0;
      held = None;
      name = 0;
      keeps = true;
      form = form_for_values;
    }

-- the writer was given the events of some calls, and what was handed on is a beginning of its output; what was written before stays; the
-- collections that were open before still are, and those that the events leave open
pub record GaveAndHandedOn {W : Type 0} (contents : W → Option (List ℕ)) (outside : Outside) (outlet : Outlet W) (emitter : State)
    (levels : List CollectionKind) : Type 0 where
  pub taken : List ℕ
  pub more : List ℕ
  pub handed : Handed contents outside.held outlet taken more
  pub gave : GaveEvents outside.form outside.start.emitter taken emitter
  pub begins : IsPrefix ((bytes_taken outside.start.emitter ++ taken) ++ more) emitter.page.output
  pub opened : levels ≡ outside.start.levels ++ levels_after gave.events []

-- and so, whatever was given
abbrev pub HasGiven : {W : Type 0} → (W → Option (List ℕ)) → Outside → Outlet W → State → List CollectionKind → Type 0
HasGiven contents outside outlet emitter levels = ∥ GaveAndHandedOn contents outside outlet emitter levels ∥₁

-- a document of this form begins whose bytes stay with this writer
pub record BeginsKept (outside : Outside) (form : Form) (writer : WriterState) (writer_name : GName) : Type 0 where
  pub start : writer ≡ outside.start
  pub lent : writer_name ≡ outside.lent
  pub held : outside.held ≡ None
  pub keeps : outside.keeps ≡ true
  pub form_is : form ≡ outside.form

-- or whose bytes are handed on to the sink that has these bytes
pub record BeginsSent (outside : Outside) (form : Form) (writer : WriterState) (writer_name : GName) (bytes : Option (List ℕ)) (sink_name : GName)
    : Type 0 where
  pub start : writer ≡ outside.start
  pub lent : writer_name ≡ outside.lent
  pub held : outside.held ≡ bytes
  pub name : outside.name ≡ sink_name
  pub keeps : outside.keeps ≡ false
  pub form_is : form ≡ outside.form

-- a document within a writer, which is handed on by the reference of this name: the collections that were open before stay so, and below the
-- base of the document
pub record Stands {W : Type 0} (contents : W → Option (List ℕ)) (outside : Outside) (outlet : Outlet W) (base : ℕ) (writer : WriterState)
    : Type 0 where
  pub given : HasGiven contents outside outlet writer.emitter writer.levels
  pub kept : is_kept outlet.handing ≡ outside.keeps
  pub same : outside.keeps ≡ false → outlet.sink.ghost_name ≡ outside.name
  pub base_is : base ≡ length outside.start.levels
  pub canonical : writer.canonical ≡ outside.start.canonical
