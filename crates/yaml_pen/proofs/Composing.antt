-- How calls that write compose: one after another, after a failure, and with changes of the cursor between them.
use Rattle.yaml_pen.proofs.Common.{ℕ, if◌then◌else◌, ◌==◌, IsSome, Option, None, Some, Result, Err, Ok, [], ◌++◌, ◌∷◌, refl, ◌≡◌, append-nil, append_assoc}
use Rattle.yaml_pen.proofs.Common.{ap, subst, sym, ◌∙◌, false≢true, prefix_same, Text, line_feed, Cursor, Rendered, render_nothing, render_then, render_text}
use Rattle.yaml_pen.proofs.Common.{break_text, with_breaks_written, Encoding, LineBreak, Page, IsReady, result_of_error, named_text, Wrote}
use Rattle.std.proofs.{Common.IsErrAnd, Common.IsErr, lemmas.Result.err_from_is_err_and}
use Rattle.yaml_base.{proofs.Prefixes.prefix_itself, proofs.Prefixes.prefix_then, specs.declared.errors.yaml_error_t.yaml_error_t}
use Rattle.yaml_pen.{proofs.Writing.column_after-append, proofs.Writing.none_from_result, specs.Wrote.Grows, specs.Wrote.WroteAll, specs.Wrote.Flushed}

-- line breaks are written part by part
pub with_breaks_written-append : (setting : LineBreak) (xs ys : Text)
    → with_breaks_written setting (xs ++ ys) ≡ with_breaks_written setting xs ++ with_breaks_written setting ys
with_breaks_written-append setting [] ys = refl
with_breaks_written-append setting (x ∷ xs) ys =
    let first : Text = if x == line_feed then break_text setting else x ∷ [] in
    ap (λ l. first ++ l) (with_breaks_written-append setting xs ys) ∙ sym (append_assoc first (with_breaks_written setting xs) (with_breaks_written setting ys))

-- after Ok there is no error
pub wrote_no_error : {render : Cursor → Rendered} {before after : Page} → Wrote render before after (Ok tt) → after.error ≡ None
wrote_no_error {render} {before} {after} wrote = none_from_result after.error wrote.answered

-- after Ok all is written
pub wrote_all : {render : Cursor → Rendered} {before after : Page} → Wrote render before after (Ok tt) → WroteAll render before after
wrote_all wrote = wrote.all (wrote_no_error wrote)

error_from_result : (error : Option yaml_error_t) (e : yaml_error_t) → Err e ≡ result_of_error error → error ≡ None → {P : Type 0} → P
error_from_result None e is none {P} = cc
error_from_result (Some error) e is none {P} = cc

-- the text of two layouts, one after another
named_text-then : (first next : Cursor → Rendered) (before between : Page) → between.cursor ≡ (first before.cursor).cursor
    → between.line_break ≡ before.line_break
    → named_text (λ c. render_then (first c) next) before ≡ named_text first before ++ named_text next between
named_text-then first next before between cursor line_break =
    with_breaks_written-append before.line_break (first before.cursor).text (next (first before.cursor).cursor).text
    ∙ ap (λ (c : Cursor). named_text first before ++ with_breaks_written before.line_break (next c).text) (sym cursor)
    ∙ ap (λ b. named_text first before ++ with_breaks_written b (next between.cursor).text) (sym line_break)

-- a call after one that answered Ok: both layouts in turn
pub wrote_then : {first next : Cursor → Rendered} {before between after : Page} {answer : Result (Unit {0}) yaml_error_t}
    → Wrote first before between (Ok tt) → Wrote next between after answer
    → Wrote (λ c. render_then (first c) next) before after answer
wrote_then {first} {next} {before} {between} {after} {answer} one two =
    let whole = wrote_all one in
    let named = named_text-then first next before between whole.cursor one.settings.line_break in
    record {
      answered = two.answered;
      ready = two.ready;
      settings = record {
        encoding = two.settings.encoding ∙ one.settings.encoding;
        line_break = two.settings.line_break ∙ one.settings.line_break;
        limit = two.settings.limit ∙ one.settings.limit;
        taken = two.settings.taken ∙ one.settings.taken;
      };
      sound_output = two.sound_output;
      grew = record {
        prefix = named_text first before ++ two.grew.prefix;
        rest = two.grew.rest;
        parts = named ∙ ap (λ l. named_text first before ++ l) two.grew.parts ∙ sym (append_assoc (named_text first before) two.grew.prefix two.grew.rest);
        grown = two.grew.grown ∙ ap (λ l. l ++ two.grew.prefix) whole.text ∙ append_assoc before.text (named_text first before) two.grew.prefix;
      };
      output = prefix_then one.output two.output;
      all = λ none.
          let last = two.all none in
          record {
            no_error = whole.no_error;
            text = last.text ∙ ap (λ l. l ++ named_text next between) whole.text ∙ append_assoc before.text (named_text first before) (named_text next between)
                ∙ ap (λ l. before.text ++ l) (sym named);
            cursor = last.cursor ∙ ap (λ (c : Cursor). (next c).cursor) whole.cursor;
          };
      stopped = λ some. absurd (false≢true (subst (λ (o : Option yaml_error_t). IsSome o) whole.no_error some));
    }

-- a call that failed, if the whole text begins with its own
pub wrote_cut : {render : Cursor → Rendered} (other : Cursor → Rendered) (rest : Text) {before after : Page} {error : yaml_error_t}
    → (other before.cursor).text ≡ (render before.cursor).text ++ rest → Wrote render before after (Err error) → Wrote other before after (Err error)
wrote_cut {render} other rest {before} {after} {error} is one =
    let setting : LineBreak = before.line_break in
    record {
      answered = one.answered;
      ready = one.ready;
      settings = one.settings;
      sound_output = one.sound_output;
      grew = record {
        prefix = one.grew.prefix;
        rest = one.grew.rest ++ with_breaks_written setting rest;
        parts = ap (with_breaks_written setting) is ∙ with_breaks_written-append setting (render before.cursor).text rest
            ∙ ap (λ l. l ++ with_breaks_written setting rest) one.grew.parts ∙ append_assoc one.grew.prefix one.grew.rest (with_breaks_written setting rest);
        grown = one.grew.grown;
      };
      output = one.output;
      all = λ none. error_from_result after.error error one.answered none;
      stopped = one.stopped;
    }

-- a call that failed, whatever text was to come after its own
pub wrote_failed : {first : Cursor → Rendered} (next : Cursor → Rendered) {before after : Page} {error : yaml_error_t}
    → Wrote first before after (Err error)
    → Wrote (λ c. render_then (first c) next) before after (Err error)
wrote_failed {first} next {before} one = wrote_cut (λ c. render_then (first c) next) (next (first before.cursor).cursor).text refl one

-- the written text depends only on the text that the layout puts at the cursor
pub wrote_as : {render : Cursor → Rendered} (other : Cursor → Rendered) {before after : Page} {answer : Result (Unit {0}) yaml_error_t}
    → render before.cursor ≡ other before.cursor → Wrote render before after answer → Wrote other before after answer
wrote_as {render} other {before} {after} {answer} same wrote =
    let text = ap (λ (l : Rendered). with_breaks_written before.line_break l.text) same in
    record {
      answered = wrote.answered;
      ready = wrote.ready;
      settings = wrote.settings;
      sound_output = wrote.sound_output;
      grew = record { prefix = wrote.grew.prefix; rest = wrote.grew.rest; parts = sym text ∙ wrote.grew.parts; grown = wrote.grew.grown };
      output = wrote.output;
      all = λ none.
          let whole = wrote.all none in
          record {
            no_error = whole.no_error;
            text = whole.text ∙ ap (λ l. before.text ++ l) text;
            cursor = whole.cursor ∙ ap (λ (l : Rendered). l.cursor) same;
          };
      stopped = wrote.stopped;
    }

-- the cursor is changed after a text was written
pub wrote_changing : {render : Cursor → Rendered} (change : Cursor → Cursor) {before between after : Page}
    → Wrote render before between (Ok tt) → after ≡ record between { cursor = change between.cursor }
    → Wrote (λ c. record { text = (render c).text; cursor = change (render c).cursor }) before after (Ok tt)
wrote_changing {render} change {before} {between} {after} wrote is =
    let whole = wrote_all wrote in
    let P : Page → Type 0 = λ p. Wrote (λ c. record { text = (render c).text; cursor = change (render c).cursor }) before p (Ok tt) in
    let changed : P (record between { cursor = change between.cursor }) = record {
      answered = wrote.answered;
      ready = record { begun = wrote.ready.begun; bom_written = wrote.ready.bom_written };
      settings = record {
        encoding = wrote.settings.encoding;
        line_break = wrote.settings.line_break;
        limit = wrote.settings.limit;
        taken = wrote.settings.taken;
      };
      sound_output = wrote.sound_output;
      grew = wrote.grew;
      output = wrote.output;
      all = λ _. record { no_error = whole.no_error; text = whole.text; cursor = ap change whole.cursor };
      stopped = λ some. absurd (false≢true (subst (λ (o : Option yaml_error_t). IsSome o) whole.no_error some));
    } in
    subst P (sym is) changed

-- a flush writes nothing
pub flushed_wrote : {before after : Page} {answer : Result (Unit {0}) yaml_error_t} → IsReady before → Flushed before after answer
    → Wrote render_nothing before after answer
flushed_wrote {before} {after} {answer} ready flushed =
    let encoding = ap (λ (p : Page). p.encoding) flushed.kept in
    let due = ap (λ (p : Page). p.bom_due) flushed.kept in
    let text = ap (λ (p : Page). p.text) flushed.kept in
    record {
      answered = flushed.answered;
      ready = record { begun = subst (λ (o : Option Encoding). IsSome o) (sym encoding) ready.begun; bom_written = due ∙ ready.bom_written };
      settings = record {
        encoding = encoding;
        line_break = ap (λ (p : Page). p.line_break) flushed.kept;
        limit = ap (λ (p : Page). p.limit) flushed.kept;
        taken = ap (λ (p : Page). p.taken) flushed.kept;
      };
      sound_output = flushed.sound_output;
      grew = record { prefix = []; rest = []; parts = refl; grown = text ∙ sym (append-nil before.text) };
      output = flushed.output;
      all = λ none. record { no_error = (flushed.all none).0; text = text ∙ sym (append-nil before.text); cursor = ap (λ (p : Page). p.cursor) flushed.kept };
      stopped = flushed.stopped;
    }

-- a call that writes, or a flush, loses nothing that was written
pub wrote_grows : {render : Cursor → Rendered} {before after : Page} {answer : Result (Unit {0}) yaml_error_t} → Wrote render before after answer
    → Grows before after
wrote_grows wrote = record { text = record { rest = wrote.grew.prefix; parts = sym wrote.grew.grown }; output = wrote.output }

pub flushed_grows : {before after : Page} {answer : Result (Unit {0}) yaml_error_t} → Flushed before after answer → Grows before after
flushed_grows {before} {after} flushed =
    record { text = prefix_same before.text after.text (sym (ap (λ (p : Page). p.text) flushed.kept)); output = flushed.output }

-- pages that grow, one after another
pub grows_itself : (page : Page) → Grows page page
grows_itself page = record { text = prefix_itself page.text; output = prefix_itself page.output }

pub grows_then : {before between after : Page} → Grows before between → Grows between after → Grows before after
grows_then first next = record { text = prefix_then first.text next.text; output = prefix_then first.output next.output }

-- two texts, one after another
pub render_text-append : (xs ys : Text) (cursor : Cursor) → render_then (render_text xs cursor) (render_text ys) ≡ render_text (xs ++ ys) cursor
render_text-append xs ys cursor =
    ap (λ (n : ℕ). let l : Rendered = record { text = xs ++ ys; cursor = record cursor { column = n } } in l) (sym (column_after-append xs ys cursor.column))

pub wrote_text_then : {xs ys : Text} {before between after : Page} {answer : Result (Unit {0}) yaml_error_t}
    → Wrote (render_text xs) before between (Ok tt) → Wrote (render_text ys) between after answer
    → Wrote (render_text (xs ++ ys)) before after answer
wrote_text_then {xs} {ys} {before} one two = wrote_as (render_text (xs ++ ys)) (render_text-append xs ys before.cursor) (wrote_then one two)

pub wrote_text_failed : {xs : Text} (ys : Text) {before after : Page} {error : yaml_error_t}
    → Wrote (render_text xs) before after (Err error)
    → Wrote (render_text (xs ++ ys)) before after (Err error)
wrote_text_failed {xs} ys {before} one = wrote_as (render_text (xs ++ ys)) (render_text-append xs ys before.cursor) (wrote_failed (render_text ys) one)

-- the exit of a `?` tells the error of the call that failed
pub wrote_exit : {render : Cursor → Rendered} {before after : Page} {error : yaml_error_t} {answer : Result (Unit {0}) yaml_error_t}
    → IsErr answer × IsErrAnd answer (λ returned. returned ≡ error) → Wrote render before after (Err error) → Wrote render before after answer
wrote_exit {render} {before} {after} {error} {answer} is wrote =
    let p = err_from_is_err_and answer is.1 in
    subst (λ (r : Result (Unit {0}) yaml_error_t). Wrote render before after r)
    (sym (p.1 ∙ ap (λ (e : yaml_error_t). let r : Result (Unit {0}) yaml_error_t = Err e in r) p.2)) wrote

-- for a call that failed the named text alone counts
pub wrote_failed_as : {render : Cursor → Rendered} (other : Cursor → Rendered) {before after : Page} {error : yaml_error_t}
    → (render before.cursor).text ≡ (other before.cursor).text → Wrote render before after (Err error) → Wrote other before after (Err error)
wrote_failed_as {render} other {before} same one = wrote_cut other [] (sym same ∙ sym (append-nil (render before.cursor).text)) one
