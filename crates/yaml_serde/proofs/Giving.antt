-- A document goes on with each call of its writer.
use Rattle.yaml_serde.proofs.Common.{ℕ, ◌<◌, ◌≤◌, OnOk, Option, None, Some, Result, Err, Ok, length, take, Bool, false, true, List, [], ◌++◌, ◌∷◌, refl, ◌≡◌}
use Rattle.yaml_serde.proofs.Common.{append-nil, ap, subst, sym, ◌∙◌, arith, Appends, ∥∥₁_map, Text, Event, State, Grows, IsWriterEvent, IsDocument, is_kept}
use Rattle.yaml_serde.proofs.Common.{GivesEvents, HandsOn, Settings, WriterState, with_collection, awaits_node}
use mathlib.Core.Logic.{∥∥₁_elim}
use Rattle.yaml_base.proofs.Common.{inl, inr, ◌⊎◌}
use Rattle.yaml_base.proofs.Prefixes.{prefix_then}
use Rattle.yaml_base.specs.Prefix.{IsPrefix}
use Rattle.yaml_writer.proofs.Common.{end_event, GaveEvent}
use Rattle.yaml_writer.{proofs.OpenLevels.levels_after-append, specs.WasGiven.levels_after}
use Rattle.yaml_emitter.proofs.Common.{with_all_taken}
use Rattle.yaml_emitter.specs.{Emits.Emits, Emits.IsPromised}
use Rattle.std.{proofs.Math.Seq.drop-append_seam, proofs.Math.Seq.take-append_seam, proofs.Math.Seq.take-length}
use Rattle.std.{proofs.Props.props}
use Rattle.std.specs.{Prelude.IfErr, Prelude.drop, Prelude.◌+◌}
use Rattle.yaml_base.specs.declared.errors.{yaml_error_t.yaml_error_t, yaml_error_t.TheVariants.Memory}
use Rattle.yaml_base.specs.declared.kinds.CollectionKind.{CollectionKind}
use Rattle.yaml_base.specs.Sinks.{AppendsFirst}
use Rattle.yaml_pen.specs.Page.{output_left}
use Rattle.std.proofs.KnownBytes.{Appends-trans}
use Rattle.yaml_serde.proofs.Gave.{gave_more, gave_none, gave_taken}
use Rattle.yaml_serde.proofs.Handing.{failed_is_sent, left_begins}
use Rattle.yaml_serde.proofs.Nesting.{Leaves, leaves_begin, leaves_end, leaves_scalar, nests_all}
use Rattle.std.specs.Float.Ieee.{Float, Format, nan, inf, fin}
use Rattle.std.specs.Prelude.{if◌then◌else◌}
use Rattle.yaml_writer.specs.Floats.{GivesFloat, special_event}
use Rattle.yaml_writer.specs.declared.floats.SpecialFloat.{SpecialFloat}
use Rattle.yaml_writer.specs.declared.floats.SpecialFloat.TheVariants.{Infinity, NegativeInfinity, NotANumber}
use Rattle.yaml_serde.specs.Documents.{GaveEvents, GivesCall, IsPartial, IsScalarCall, SendsEvents}
use Rattle.yaml_serde.specs.Documents.{begin_call, end_call, number_call, scalar_call, special_call}
use Rattle.yaml_serde.specs.Forms.{begin_event}
use Rattle.yaml_serde.specs.Outlets.{GaveAndHandedOn, HandsAll, HandsFirst, HandsNone, HasGiven, Outside, Stands, has_failed}
use Rattle.yaml_serde.specs.ValueCalls.{GavePart, GivesValue, SendsBeginning, SentValue}
use Rattle.yaml_serde.specs.declared.error.Error.{Error}
use Rattle.yaml_serde.specs.declared.outlet.Handing.{Handing}
use Rattle.yaml_serde.specs.declared.outlet.Handing.TheVariants.{Kept, Open, Failed}
use Rattle.yaml_serde.specs.declared.outlet.Outlet.{Outlet}
use Rattle.yaml_writer.specs.{Writing.NodeExpected, Writing.Begins, Writing.Gives, Writing.EndsInnermost, Writing.number_event}

-- ---- truncated facts

-- the rest after a prefix is what is left of the whole
dropped : (xs ys : List ℕ) → IsPrefix xs ys → xs ++ drop (length xs) ys ≡ ys
dropped xs ys is =
    subst (λ (whole : List ℕ). xs ++ drop (length xs) whole ≡ whole) is.parts (ap (λ (rest : List ℕ). xs ++ rest) (drop-append_seam xs is.rest))

prefix_had : (xs ys : List ℕ) → ∥ IsPrefix xs ys ∥₁ → IsPrefix xs ys
prefix_had xs ys is = record {
  rest = drop (length xs) ys;
  parts = ∥∥₁_elim {P = xs ++ drop (length xs) ys ≡ ys} is (hlevel props) (dropped xs ys);
}

-- true is not false
not_kept : false ≡ true → ⊥
not_kept is = cc

-- ---- the document

-- a float is given by one call
pub float_call : (before after : WriterState) (format : Format) (float : Float) (answer : Result (Unit {0}) yaml_error_t)
    → GivesFloat format before float answer after → GivesCall before answer after
float_call before after format nan answer gave = (special_event before NotANumber, special_call before NotANumber, gave)
float_call before after format (inf negative) answer gave =
    let value : SpecialFloat = if negative then NegativeInfinity else Infinity in
    (special_event before value, special_call before value, gave)
float_call before after format (fin negative significand exponent) answer gave =
    (number_event before gave.0, number_call before gave.0 gave.1.is_number.valid, gave.2)

module _ {W : Type 0} (contents : W → Option (List ℕ)) (outside : Outside) where
  abbrev StandsIn : Outlet W → ℕ → WriterState → Type 0
  StandsIn outlet base writer = Stands contents outside outlet base writer

  -- the events that were given, with some bytes handed on
  abbrev Given : Outlet W → WriterState → Type 0
  Given outlet writer = GaveAndHandedOn contents outside outlet writer.emitter writer.levels

  -- a document begins
  pub stands_new : (outlet : Outlet W) {base : ℕ} {writer : WriterState} → writer ≡ outside.start → Appends outside.held (contents outlet.sink.now) []
      → is_kept outlet.handing ≡ outside.keeps → (outside.keeps ≡ false → outlet.sink.ghost_name ≡ outside.name) → base ≡ length writer.levels
      → StandsIn outlet base writer
  stands_new outlet {base} {writer} is appends kept same count =
      record {
        given = subst (λ (w : WriterState). HasGiven contents outside outlet w.emitter w.levels) (sym is) ∣ begun ∣₁;
        kept = kept;
        same = same;
        base_is = count ∙ ap (λ (w : WriterState). length w.levels) is;
        canonical = ap (λ (w : WriterState). w.canonical) is;
      }
    where
      begun : Given outlet outside.start
      begun =
          let gave : GaveEvents outside.form outside.start.emitter [] outside.start.emitter = gave_none outside.form outside.start.emitter in
          record {
            taken = [];
            more = [];
            handed = record { sends = appends; none = λ unfailed. refl; kept = λ kept. refl };
            gave = gave;
            begins = left_begins [] gave.emits (record { rest = output_left outside.start.emitter.page; parts = refl });
            opened = sym (append-nil outside.start.levels);
          }

  -- nothing changes
  stands_same : (outlet : Outlet W) (base : ℕ) (before after : WriterState) → after ≡ before → StandsIn outlet base before → StandsIn outlet base after
  stands_same outlet base before after is stands = subst (StandsIn outlet base) (sym is) stands

  -- an event more
  stands_more : (outlet : Outlet W) (base : ℕ) (before after : WriterState) (event : Event) {answer : Result (Unit {0}) yaml_error_t}
      → IsWriterEvent outside.form.flow event → Emits before.emitter (event ∷ []) answer after.emitter → after.canonical ≡ before.canonical
      → Leaves outside.form.depth outside.start.levels event before.levels after.levels → StandsIn outlet base before → StandsIn outlet base after
  stands_more outlet base before after event call emits canonical leaves stands =
      record {
        given = ∥∥₁_map stands.given more;
        kept = stands.kept;
        same = stands.same;
        base_is = stands.base_is;
        canonical = canonical ∙ stands.canonical;
      }
    where
      more : Given outlet before → Given outlet after
      more given =
          let left = leaves (levels_after given.gave.events []) given.opened (nests_all outside.form.depth given.gave.events given.gave.are.1) in
          record {
            taken = given.taken;
            more = given.more;
            handed = given.handed;
            gave = gave_more event call emits given.gave left.1;
            begins = prefix_then given.begins emits.grows.output;
            opened = left.0 ∙ ap (λ (own : List CollectionKind). outside.start.levels ++ own) (sym (levels_after-append given.gave.events (event ∷ []) []));
          }

  gave_scalar : (outlet : Outlet W) (base : ℕ) (before after : WriterState) (event : Event) (answer : Result (Unit {0}) yaml_error_t)
      → IsScalarCall event → GaveEvent before event answer after → StandsIn outlet base before → StandsIn outlet base after
  gave_scalar outlet base before after event answer call gave =
      stands_more outlet base before after event (scalar_call call) gave.emits gave.canonical
      (leaves_scalar outside.form.depth outside.start.levels call gave.levels)

  -- a scalar was given, or there was no memory for it
  pub stands_given : (answer : Result (Unit {0}) yaml_error_t) {outlet : Outlet W} {base : ℕ} {before after : WriterState} {event : Event}
      → IsScalarCall event → Gives before event answer after → StandsIn outlet base before → StandsIn outlet base after
  stands_given (Ok done) {outlet} {base} {before} {after} {event} call gave = gave_scalar outlet base before after event (Ok done) call gave
  stands_given (Err error) {outlet} {base} {before} {after} {event} call (inl failed) = gave_scalar outlet base before after event (Err error) call failed
  stands_given (Err error) {outlet} {base} {before} {after} {event} call (inr none) = stands_same outlet base before after none.1

  gave_begin : (outlet : Outlet W) (base : ℕ) (before after : WriterState) (kind : CollectionKind) (answer : Result (Unit {0}) yaml_error_t)
      → length before.levels < base + outside.form.depth → GaveEvent (with_collection before kind) (begin_event outside.form.flow kind before) answer after
      → StandsIn outlet base before → StandsIn outlet base after
  gave_begin outlet base before after kind answer room gave stands =
      stands_more outlet base before after (begin_event outside.form.flow kind before) (begin_call kind before) gave.emits gave.canonical
      (leaves_begin outside.form.depth outside.start.levels outside.form.flow kind before (omega (arith, room, stands.base_is)) gave.levels)
      stands

  -- the start of a collection was given, for which there was room, or there was no memory for it
  pub stands_begun : (answer : Result (Unit {0}) yaml_error_t) (kind : CollectionKind) {outlet : Outlet W} {base : ℕ} {before after : WriterState}
      → length before.levels < base + outside.form.depth → Begins kind before (begin_event outside.form.flow kind before) answer after
      → StandsIn outlet base before → StandsIn outlet base after
  stands_begun (Ok done) kind {outlet} {base} {before} {after} room gave = gave_begin outlet base before after kind (Ok done) room gave
  stands_begun (Err error) kind {outlet} {base} {before} {after} room (inl failed) = gave_begin outlet base before after kind (Err error) room failed
  stands_begun (Err error) kind {outlet} {base} {before} {after} room (inr none) = stands_same outlet base before after none.1

  -- a collection of the document was ended
  stands_end : (answer : Result (Unit {0}) yaml_error_t) (outlet : Outlet W) (base : ℕ) (before after : WriterState) → base < length before.levels
      → EndsInnermost before answer after → StandsIn outlet base before → StandsIn outlet base after
  stands_end answer outlet base before after inner (inl none) stands = stands_same outlet base before after none.2 stands
  stands_end answer outlet base before after inner (inr ended) stands =
      stands_more outlet base before after (end_event ended.kind) (end_call ended.kind) ended.emits
      (ap (λ (w : WriterState). w.canonical) ended.rest)
      (leaves_end outside.form.depth outside.start.levels ended.kind (omega (arith, inner, stands.base_is))
      (ended.levels ∙ ap (λ (w : WriterState). w.levels ++ ended.kind ∷ []) (sym ended.rest)))
      stands

  -- or a tag awaited its node
  pub stands_ended : (answer : Result (Unit {0}) yaml_error_t) {outlet : Outlet W} {base : ℕ} {before after : WriterState} → base < length before.levels
      → (awaits_node before ≡ true → NodeExpected before answer after) → (awaits_node before ≡ false → EndsInnermost before answer after)
      → StandsIn outlet base before → StandsIn outlet base after
  stands_ended answer {outlet} {base} {before} {after} inner awaited ended = by (awaits_node before) refl
    where
      by : (x : Bool) → awaits_node before ≡ x → StandsIn outlet base before → StandsIn outlet base after
      by true is = stands_same outlet base before after (awaited is).1
      by false is = stands_end answer outlet base before after inner (ended is)

  -- the next node has a tag, or there was no memory for it
  pub stands_tagged : (answer : Result (Unit {0}) yaml_error_t) (tag : Text) {outlet : Outlet W} {base : ℕ} {before after : WriterState}
      → OnOk answer (after ≡ record before { tag = Some tag }) → IfErr answer (λ error. (error ≡ Memory) × (after ≡ before))
      → StandsIn outlet base before → StandsIn outlet base after
  stands_tagged (Ok done) tag {outlet} {base} {before} {after} tagged none stands =
      stands_same outlet base (record before { tag = Some tag }) after tagged
      (record { given = stands.given; kept = stands.kept; same = stands.same; base_is = stands.base_is; canonical = stands.canonical })
  stands_tagged (Err error) tag {outlet} {base} {before} {after} tagged none stands = stands_same outlet base before after none.1 stands

  -- a sink that didn't fail has what was taken
  sends_taken : (outlet : Outlet W) (writer : WriterState) → has_failed outlet.handing ≡ false → (gave : Given outlet writer)
      → Appends outside.held (contents outlet.sink.now) gave.taken
  sends_taken outlet writer unfailed gave =
      subst (Appends outside.held (contents outlet.sink.now))
      (ap (λ (l : List ℕ). gave.taken ++ l) (gave.handed.none unfailed) ∙ append-nil gave.taken) gave.handed.sends

  -- nothing was handed on
  stands_none : (old new : Outlet W) (base : ℕ) (before after : WriterState) → HandsNone old before new after → StandsIn old base before
      → StandsIn new base after
  stands_none old new base before after none stands =
      subst (λ (outlet : Outlet W). StandsIn outlet base after) (sym none.outlet) (stands_same old base before after none.writer stands)

  -- all that is left was handed on
  stands_sent : (old new : Outlet W) (base : ℕ) (before after : WriterState) → old.handing ≡ Open → HandsAll contents old before new after
      → new.sink.ghost_name ≡ old.sink.ghost_name → StandsIn old base before → StandsIn new base after
  stands_sent old new base before after is hands same stands =
      stands_same new base sent after hands.writer
      (record {
        given = ∥∥₁_map stands.given handed;
        kept = ap is_kept hands.stays ∙ stands.kept;
        same = λ sent. same ∙ stands.same sent;
        base_is = stands.base_is;
        canonical = stands.canonical;
      })
    where
      sent : WriterState
      sent = record before { emitter = with_all_taken before.emitter }

      left : List ℕ
      left = output_left before.emitter.page

      is_open : new.handing ≡ Open
      is_open = hands.stays ∙ is

      handed : Given old before → Given new sent
      handed given =
          let sends = sends_taken old before (ap has_failed is) given in
          let gave : GaveEvents outside.form outside.start.emitter (given.taken ++ left) sent.emitter = gave_taken given.gave in
          record {
            taken = given.taken ++ left;
            more = [];
            handed = record {
              sends = subst (Appends outside.held (contents new.sink.now)) (sym (append-nil (given.taken ++ left)))
                  (Appends-trans outside.held (contents old.sink.now) (contents new.sink.now) given.taken left sends hands.sends);
              none = λ unfailed. refl;
              kept = λ kept. absurd (not_kept (sym (ap is_kept is_open) ∙ kept));
            };
            gave = gave;
            begins = left_begins [] gave.emits (record { rest = output_left sent.emitter.page; parts = refl });
            opened = given.opened;
          }

  -- a beginning of what is left was handed on
  stands_stopped : (old new : Outlet W) (base : ℕ) (before after : WriterState) → old.handing ≡ Open → HandsFirst contents old before new after
      → new.sink.ghost_name ≡ old.sink.ghost_name → StandsIn old base before → StandsIn new base after
  stands_stopped old new base before after is hands same stands =
      stands_same new base before after hands.writer
      (record {
        given = ∥∥₁_map stands.given handed;
        kept = failed_is_sent new.handing hands.fails ∙ sym (ap is_kept is) ∙ stands.kept;
        same = λ sent. same ∙ stands.same sent;
        base_is = stands.base_is;
        canonical = stands.canonical;
      })
    where
      handed : Given old before → Given new before
      handed given =
          let sends = sends_taken old before (ap has_failed is) given in
          record {
            taken = given.taken;
            more = hands.sends.0;
            handed = record {
              sends = Appends-trans outside.held (contents old.sink.now) (contents new.sink.now) given.taken hands.sends.0 sends hands.sends.2;
              none = λ unfailed. absurd (not_kept (sym unfailed ∙ hands.fails));
              kept = λ kept. absurd (not_kept (sym (failed_is_sent new.handing hands.fails) ∙ kept));
            };
            gave = given.gave;
            begins = left_begins hands.sends.0 given.gave.emits hands.sends.1;
            opened = given.opened;
          }

  -- bytes were handed on
  pub stands_handed : (answer : Result (Unit {0}) Error) {old new : Outlet W} {base : ℕ} {before after : WriterState}
      → HandsOn contents old.handing old before answer new after → new.sink.ghost_name ≡ old.sink.ghost_name
      → StandsIn old base before → StandsIn new base after
  stands_handed answer {old} {new} {base} {before} {after} hands same = by old.handing refl answer hands
    where
      by : (handing : Handing) → old.handing ≡ handing → (answer : Result (Unit {0}) Error) → HandsOn contents handing old before answer new after
          → StandsIn old base before → StandsIn new base after
      by Kept is answer hands = stands_none old new base before after hands.1
      by (Failed error) is answer hands = stands_none old new base before after hands.1
      by Open is (Ok done) hands = stands_sent old new base before after is hands same
      by Open is (Err error) hands = stands_stopped old new base before after is hands same

  -- ---- its end

  -- all its bytes stayed with the writer
  kept_gives : (outlet : Outlet W) (base : ℕ) (writer : WriterState) → outside.keeps ≡ true → StandsIn outlet base writer
      → GivesEvents outside.form outside.start.emitter writer.emitter
  kept_gives outlet base writer kept stands = ∥∥₁_map stands.given gives
    where
      gives : Given outlet writer → GaveEvents outside.form outside.start.emitter [] writer.emitter
      gives given =
          subst (λ (bytes : List ℕ). GaveEvents outside.form outside.start.emitter bytes writer.emitter) (given.handed.kept (stands.kept ∙ kept)) given.gave

  -- bytes that were written before stay
  given_grows : (outlet : Outlet W) (base : ℕ) (writer : WriterState) → StandsIn outlet base writer → Grows outside.start.emitter.page writer.emitter.page
  given_grows outlet base writer stands =
      record {
        text = prefix_had outside.start.emitter.page.text writer.emitter.page.text (∥∥₁_map stands.given (λ given. given.gave.grows.text));
        output = prefix_had outside.start.emitter.page.output writer.emitter.page.output (∥∥₁_map stands.given (λ given. given.gave.grows.output));
      }

  -- what was open before stays so
  had_above : (outlet : Outlet W) (base : ℕ) (writer : WriterState) → StandsIn outlet base writer
      → take (length outside.start.levels) writer.levels ≡ outside.start.levels
  had_above outlet base writer stands =
      ∥∥₁_elim {P = take (length outside.start.levels) writer.levels ≡ outside.start.levels} stands.given (hlevel props)
      (λ given. ap (take (length outside.start.levels)) given.opened ∙ take-append_seam outside.start.levels (levels_after given.gave.events []))

  -- whatever it is, it is a part of a value
  gave_part : (outlet : Outlet W) (base : ℕ) (writer : WriterState) → outside.keeps ≡ true → StandsIn outlet base writer
      → GavePart outside.form outside.start writer
  gave_part outlet base writer kept stands = record {
    gives = kept_gives outlet base writer kept stands;
    grows = given_grows outlet base writer stands;
    canonical = stands.canonical;
    above = had_above outlet base writer stands;
  }

  -- and a whole one, if the writer has no error, and nothing more is open than before
  pub gives_value : (answer : Result (Unit {0}) Error) {outlet : Outlet W} {base : ℕ} {writer : WriterState} → outside.keeps ≡ true
      → StandsIn outlet base writer → OnOk answer ((length writer.levels ≡ base) × (awaits_node writer ≡ false))
      → OnOk answer (writer.emitter.error ≡ None) → GivesValue outside.form outside.start answer writer
  gives_value (Ok done) {outlet} {base} {writer} kept stands whole sound = record {
    part = gave_part outlet base writer kept stands;
    whole = (
      sym (take-length writer.levels) ∙ ap (λ (count : ℕ). take count writer.levels) (whole.0 ∙ stands.base_is) ∙ had_above outlet base writer stands,
      whole.1,
    );
    sound = sound;
  }
  gives_value (Err error) {outlet} {base} {writer} kept stands whole sound = gave_part outlet base writer kept stands

  -- if the sink didn't fail, it has the bytes that were taken
  sent_events : (outlet : Outlet W) (base : ℕ) (writer : WriterState) → has_failed outlet.handing ≡ false → StandsIn outlet base writer
      → SendsEvents outside.form outside.held outside.start.emitter (contents outlet.sink.now) writer.emitter
  sent_events outlet base writer unfailed stands =
      ∥∥₁_map stands.given (λ gave. (gave.taken, sends_taken outlet writer unfailed gave, gave.gave))

  -- nothing more was handed on
  pub sent_part : {outlet : Outlet W} {base : ℕ} {writer : WriterState} → IsPromised writer.emitter → StandsIn outlet base writer
      → SendsBeginning outside.form outside.held outside.start.emitter (contents outlet.sink.now)
  sent_part {outlet} {base} {writer} promised stands opened untaken = ∥∥₁_map stands.given part
    where
      given : Settings
      given = outside.start.emitter.given

      output : List ℕ
      output = writer.emitter.page.output

      part : Given outlet writer
          → (bytes : List ℕ) × AppendsFirst outside.held (contents outlet.sink.now) bytes
          × ((bytes ≡ []) ⊎ (IsPartial given outside.form bytes ⊎ IsDocument given outside.form bytes))
      part gave =
          let handed_on = gave.taken ++ gave.more in
          let begins : IsPrefix handed_on output =
          subst (λ (taken : List ℕ). IsPrefix ((taken ++ gave.taken) ++ gave.more) output) untaken gave.begins in (
            output,
            (handed_on, begins, gave.handed.sends),
            inr (inl (record {
              events = gave.gave.events;
              are = gave.gave.are;
              state = writer.emitter;
              settings = gave.gave.emits.given;
              began = gave.gave.emits.appended ∙ ap (λ (before : List Event). before ++ gave.gave.events) opened;
              promised = promised;
              output_is = refl;
            })),
          )

  -- all that was taken was handed on
  pub sent_value : {outlet : Outlet W} {base : ℕ} {writer : WriterState} → has_failed outlet.handing ≡ false → IsPromised writer.emitter
      → StandsIn outlet base writer → SentValue outside.form outside.held outside.start.emitter (contents outlet.sink.now) writer.emitter
  sent_value {outlet} {base} {writer} unfailed promised stands =
      record { whole = sent_events outlet base writer unfailed stands; first = sent_part promised stands }
