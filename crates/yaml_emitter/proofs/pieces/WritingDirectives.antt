-- Directives' lines, one after another.
use Rattle.yaml_emitter.proofs.Common.{ℕ, ◌+◌, ◌<◌, Result, Err, Ok, drop, length, slice_index_or as get_or, take, Bool, false, List, [], map, ◌++◌, ◌∷◌}
use Rattle.yaml_emitter.proofs.Common.{refl, ◌≡◌, take-append-drop, drop-cons, append-nil, append_assoc, ap, subst, sym, ◌∙◌, add-one, false≢true, length-map}
use Rattle.yaml_emitter.proofs.Common.{map-append, list_any, Text, is_break, Cursor, Rendered, render_then, TagDirective, render_tag_directive}
use Rattle.yaml_emitter.proofs.Common.{render_tag_directives, some_handle_breaks, wrote_then, wrote_failed, wrote_as, Page, Wrote}
use Rattle.std.proofs.lemmas.{Bool.false_from_ne_true, List.take_more, List.get_or-map, List.Folds.list_any_at}
use Rattle.yaml_base.specs.declared.errors.yaml_error_t.{yaml_error_t}

tag_directives-append : (portable : Bool) (xs ys : List TagDirective) (cursor : Cursor)
    → render_then (render_tag_directives portable xs cursor) (render_tag_directives portable ys) ≡ render_tag_directives portable (xs ++ ys) cursor
tag_directives-append portable [] ys cursor = refl
tag_directives-append portable (x ∷ xs) ys cursor =
    let one = render_tag_directive portable x cursor in
    let rest = render_tag_directives portable xs one.cursor in
    let last = render_tag_directives portable ys rest.cursor in
    ap (λ (text : Text). let l : Rendered = record { text = text; cursor = last.cursor } in l) (append_assoc one.text rest.text last.text)
    ∙ ap (render_then one) (ap (λ (l : Rendered). λ (c : Cursor). l) (tag_directives-append portable xs ys one.cursor))

-- the lines of some, and then those of others
wrote_directives_then : (portable : Bool) (xs ys : List TagDirective) {before between after : Page} {answer : Result (Unit {0}) yaml_error_t}
    → Wrote (render_tag_directives portable xs) before between (Ok tt) → Wrote (render_tag_directives portable ys) between after answer
    → Wrote (render_tag_directives portable (xs ++ ys)) before after answer
wrote_directives_then portable xs ys {before} one two = wrote_as (render_tag_directives portable (xs ++ ys))
    (tag_directives-append portable xs ys before.cursor)
    (wrote_then one two)

last_alone : (portable : Bool) (d : TagDirective) (cursor : Cursor) → render_tag_directive portable d cursor ≡ render_tag_directives portable (d ∷ []) cursor
last_alone portable d cursor =
    let one = render_tag_directive portable d cursor in
    ap (λ (text : Text). let l : Rendered = record { text = text; cursor = one.cursor } in l) (sym (append-nil one.text))

module _ {E : Type 0} (portable : Bool) (seen : E → TagDirective) (items : List E) (i : ℕ) (item : E) (within : i < length items)
    (at : item ≡ get_or items i item) where
  prefix_more : map seen (take i items) ++ seen item ∷ [] ≡ map seen (take (i + 1) items)
  prefix_more =
      ap (λ x. map seen (take i items) ++ seen x ∷ []) at
      ∙ sym (map-append seen (take i items) (get_or items i item ∷ []))
      ∙ ap (map seen) (sym (take_more items i item within))

  whole : map seen (take i items) ++ seen item ∷ map seen (drop (i + 1) items) ≡ map seen items
  whole =
      let rest : drop i items ≡ get_or items i item ∷ drop (i + 1) items = rw add-one (drop-cons items i item within) in
      ap (λ x. map seen (take i items) ++ seen x ∷ map seen (drop (i + 1) items)) at
      ∙ ap (λ r. map seen (take i items) ++ map seen r) (sym rest)
      ∙ sym (map-append seen (take i items) (drop i items))
      ∙ ap (map seen) (take-append-drop i items)

  -- one more line
  pub wrote_next_directive : {before between after : Page}
      → Wrote (render_tag_directives portable (map seen (take i items))) before between (Ok tt)
      → Wrote (render_tag_directive portable (seen item)) between after (Ok tt)
      → Wrote (render_tag_directives portable (map seen (take (i + 1) items))) before after (Ok tt)
  wrote_next_directive {before} {between} {after} one two =
      let alone = wrote_as (render_tag_directives portable (seen item ∷ [])) (last_alone portable (seen item) between.cursor) two in
      subst (λ (ds : List TagDirective). Wrote (render_tag_directives portable ds) before after (Ok tt)) prefix_more
      (wrote_directives_then portable (map seen (take i items)) (seen item ∷ []) one alone)

  -- a line that failed
  pub failed_next_directive : {before between after : Page} {error : yaml_error_t}
      → Wrote (render_tag_directives portable (map seen (take i items))) before between (Ok tt)
      → Wrote (render_tag_directive portable (seen item)) between after (Err error)
      → Wrote (render_tag_directives portable (map seen items)) before after (Err error)
  failed_next_directive {before} {between} {after} {error} one two =
      subst (λ (ds : List TagDirective). Wrote (render_tag_directives portable ds) before after (Err error)) whole
      (wrote_directives_then portable (map seen (take i items)) (seen item ∷ map seen (drop (i + 1) items)) one
      (wrote_failed (render_tag_directives portable (map seen (drop (i + 1) items))) two))

  pub next_handle : some_handle_breaks (map seen items) ≡ false → list_any is_break (seen item).handle ≡ false
  next_handle none =
      false_from_ne_true (list_any is_break (seen item).handle)
      (λ breaks. false≢true (sym none ∙ list_any_at (λ (d : TagDirective). list_any is_break d.handle) (map seen items) i (seen item) (rw (length-map) within)
      (ap (λ (d : TagDirective). list_any is_break d.handle) (get_or-map seen items i item (seen item) within ∙ ap seen (sym at)) ∙ breaks)))
