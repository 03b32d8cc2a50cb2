-- The text and the output of an emitter, compared with the layouts of lists that go on from its events.
use Rattle.yaml_emitter.proofs.Common.{suc, zero, ℕ, ◌≤◌, option_and_then, Option, None, Some, drop, length, take, Bool, false, true, ◌&&◌, List, [], ◌++◌}
use Rattle.yaml_emitter.proofs.Common.{◌∷◌, refl, ◌≡◌, take-append-drop, length-take-le, take_at, append_assoc, ap, subst, sym, ◌∙◌, arith}
use Rattle.yaml_emitter.proofs.Common.{stands_from_begins, refused_exactly, prefix_layout, prefix_same, stream_pushed, Text, text_bytes, encode, cut, Event}
use Rattle.yaml_emitter.proofs.Common.{sequence_start, mapping_start, no_nodes, no_pairs, at_item, at_key, Partial, before_stream, within_document}
use Rattle.yaml_emitter.proofs.Common.{after_stream, push, pushed, partial_of, first_standing, Piece, text_written, bytes_written, completion, list_layout}
use Rattle.yaml_emitter.proofs.Common.{pieces, last_begins_collection, first_ends_collection, IsPrefix, refusal_at, refusal, IsAccepted, IsAcceptedPrefix}
use Rattle.yaml_emitter.proofs.Common.{Effective, at_stream, steps, IsPage, HoldsPiecesWith, encode-append, Page, encoded}
use Rattle.yaml_base.{proofs.Common.and-false, proofs.PieceLaws.begun_pieces, specs.Pieces.empty_scalar, specs.Pieces.last_closes_at_once}
use Rattle.yaml_base.{specs.declared.errors.yaml_error_t.yaml_error_t, specs.declared.errors.yaml_error_t.TheVariants.WriteError}
use Rattle.yaml_emitter.proofs.standing.Standing.{text_written-append}

-- A page's text is that of its pieces.
pub holds_text : (prefix : List Event) (s : Effective) (follows : Bool) (error : Option yaml_error_t) (page : Page)
    → HoldsPiecesWith error s prefix (steps s follows prefix at_stream first_standing).pieces page
    → page.text ≡ text_written s (steps s follows prefix at_stream first_standing).pieces
holds_text [] s follows error page h = ap (λ (p : Page). p.text) h
holds_text (x ∷ prefix) s follows error page h = h.1

-- The pieces of the first events of a list.
pub pieces_prefix : (prefix rest all : List Event) (s : Effective) (p : Partial) → prefix ++ rest ≡ all → partial_of prefix ≡ Some p
    → pieces s all (length prefix) ≡ (steps s false prefix at_stream first_standing).pieces
pieces_prefix prefix rest all s p parts is =
    let first : take (length prefix) all ≡ prefix = ap (take (length prefix)) (sym parts) ∙ take_at prefix rest (length prefix) refl in
    ap (λ events. take (length prefix) (list_layout s (completion events))) first ∙ begun_pieces prefix p s is

pub begin_taken : (n : ℕ) (prefix whole : List Piece) → take n whole ≡ prefix → IsPrefix prefix whole
begin_taken n prefix whole is = record { rest = drop n whole; parts = ap (λ pieces. pieces ++ drop n whole) (sym is) ∙ take-append-drop n whole }

pub begin_take : (n : ℕ) (prefix whole : List Piece) → IsPrefix prefix whole → length prefix ≡ n → take n whole ≡ prefix
begin_take n prefix whole h is = ap (take n) (sym h.parts) ∙ take_at prefix h.rest n is

pub prefix_longer : (s : Effective) (text : Text) (prefix whole : List Piece) → IsPrefix text (text_written s prefix) → IsPrefix prefix whole
    → IsPrefix text (text_written s whole)
prefix_longer s text prefix whole h begins =
    record {
      rest = h.rest ++ text_written s begins.rest;
      parts =
          sym (append_assoc text h.rest (text_written s begins.rest))
          ∙ ap (λ t. t ++ text_written s begins.rest) h.parts
          ∙ sym (text_written-append s prefix begins.rest)
          ∙ ap (text_written s) begins.parts;
    }

-- An accepted list that goes on from these events, with their pieces.
pub record ContinuesScript (canonical : Bool) (s : Effective) (prefix : List Event) (begun : List Piece) : Type 0 where
  pub more : List Event
  pub accepted : IsAccepted canonical (prefix ++ more)
  pub begins : IsPrefix begun (list_layout s (prefix ++ more))

goes_on_with : (canonical : Bool) (s : Effective) (prefix more : List Event) → IsAccepted canonical (prefix ++ more) → last_closes_at_once prefix more ≡ false
    → ContinuesScript canonical s prefix (steps s false prefix at_stream first_standing).pieces
goes_on_with canonical s prefix more accepted opens =
    let whole : partial_of (prefix ++ more) ≡ Some (after_stream accepted.stream) = ap partial_of (sym accepted.is_stream) ∙ stream_pushed accepted.stream in
    record {
      more = more;
      accepted = accepted;
      begins =
          begin_taken (length prefix) (steps s false prefix at_stream first_standing).pieces (list_layout s (prefix ++ more))
          (prefix_layout prefix more accepted.stream s whole opens);
    }

-- A collection's start may be followed by a scalar.
abbrev ScalarFollows : List Event → Type 0
ScalarFollows prefix =
    (canonical : Bool) (p q : Partial) → pushed p prefix ≡ Some q → last_begins_collection prefix ≡ true → refusal_at canonical q empty_scalar ≡ None

scalar_one : (event : Event) → ScalarFollows (event ∷ [])
scalar_one (sequence_start c) true (within_document e d s levels) q h begins =
    let same : within_document e d s (at_item c no_nodes ∷ levels) ≡ q = cc in ap (λ r. refusal_at true r empty_scalar) (sym same)
scalar_one (sequence_start c) false (within_document e d s levels) q h begins =
    let same : within_document e d s (at_item c no_nodes ∷ levels) ≡ q = cc in ap (λ r. refusal_at false r empty_scalar) (sym same)
scalar_one (mapping_start c) true (within_document e d s levels) q h begins =
    let same : within_document e d s (at_key c no_pairs ∷ levels) ≡ q = cc in ap (λ r. refusal_at true r empty_scalar) (sym same)
scalar_one (mapping_start c) false (within_document e d s levels) q h begins =
    let same : within_document e d s (at_key c no_pairs ∷ levels) ≡ q = cc in ap (λ r. refusal_at false r empty_scalar) (sym same)
scalar_one _ canonical p q h begins = cc

scalar_later : (prefix : List Event) → ScalarFollows prefix → (canonical : Bool) (made : Option Partial) (q : Partial)
    → option_and_then (λ r. pushed r prefix) made ≡ Some q → last_begins_collection prefix ≡ true → refusal_at canonical q empty_scalar ≡ None
scalar_later prefix others canonical None q h begins = cc
scalar_later prefix others canonical (Some r) q h begins = others canonical r q h begins

scalar_follows : (prefix : List Event) → ScalarFollows prefix
scalar_follows [] canonical p q h begins = cc
scalar_follows (event ∷ []) canonical p q h begins = scalar_one event canonical p q h begins
scalar_follows (event ∷ other ∷ more) canonical p q h begins = scalar_later (other ∷ more) (scalar_follows (other ∷ more)) canonical (push p event) q h begins

pub goes_on : (canonical : Bool) (s : Effective) (prefix : List Event) → IsAcceptedPrefix canonical prefix
    → ContinuesScript canonical s prefix (steps s false prefix at_stream first_standing).pieces
goes_on canonical s prefix begins = going (last_begins_collection prefix) refl
  where
    going : (last : Bool) → last_begins_collection prefix ≡ last → ContinuesScript canonical s prefix (steps s false prefix at_stream first_standing).pieces
    going false is = goes_on_with canonical s prefix begins.rest begins.accepted (ap (λ b. b && first_ends_collection begins.rest) is)
    going true is =
        let stands = stands_from_begins canonical prefix begins in
        let none : refusal canonical prefix empty_scalar ≡ None =
        ap (λ o. option_and_then (λ q. refusal_at canonical q empty_scalar) o) stands.is_partial
        ∙ scalar_follows prefix canonical before_stream stands.partial stands.is_partial is in
        let next = (refused_exactly canonical prefix empty_scalar begins).0 none in
        goes_on_with canonical s prefix (empty_scalar ∷ next.rest)
        (subst (IsAccepted canonical) (append_assoc prefix (empty_scalar ∷ []) next.rest) next.accepted)
        (and-false (last_begins_collection prefix))

-- Bytes that others begin with.
take_longer : (n : ℕ) (a b : List ℕ) → n ≤ length a → take n (a ++ b) ≡ take n a
take_longer zero a b h = refl
take_longer (suc n) [] b h = absurd (omega (arith, h))
take_longer (suc n) (x ∷ a) b h = ap (λ l. x ∷ l) (take_longer n a b (omega (arith, h)))

taken_within : (n : ℕ) (a : List ℕ) → length (take n a) ≡ n → n ≤ length a
taken_within zero a h = omega arith
taken_within (suc n) [] h = absurd (omega (arith, h))
taken_within (suc n) (x ∷ a) h = let less = taken_within n a (omega (arith, h)) in omega (arith, less)

page_bytes : (s : Effective) (page : Page) (whole : List Piece) → IsPage s page → (prefix : IsPrefix page.text (text_written s whole))
    → bytes_written s whole ≡ encoded page ++ text_bytes s.encoding prefix.rest
page_bytes s page whole h prefix =
    ap (encode (Some s.encoding)) (sym prefix.parts)
    ∙ encode-append s.encoding page.text prefix.rest
    ∙ ap (λ e. encode e page.text ++ text_bytes s.encoding prefix.rest) (sym h.encoding)

pub output_begins : (s : Effective) (page : Page) (whole : List Piece) → IsPage s page → IsPrefix page.text (text_written s whole)
    → page.output ≡ cut (length page.output) (bytes_written s whole)
output_begins s page whole h prefix =
    let n = length page.output in
    let within : n ≤ length (encoded page) = taken_within n (encoded page) (sym (ap length h.sound_output.prefix)) in
    h.sound_output.prefix
    ∙ sym (take_longer n (encoded page) (text_bytes s.encoding prefix.rest) within)
    ∙ ap (take n) (sym (page_bytes s page whole h prefix))

pub output_fills : (s : Effective) (page : Page) (whole : List Piece) → IsPage s page → IsPrefix page.text (text_written s whole) → page.error ≡ Some WriteError
    → (length page.output ≡ s.limit) × (page.output ≡ cut s.limit (bytes_written s whole))
output_fills s page whole h prefix failed =
    let full = h.sound_output.full failed in
    let within : s.limit ≤ length (encoded page) = omega (arith, full.0, h.limit) in
    let is : page.output ≡ take s.limit (encoded page) = full.1 ∙ ap (λ n. take n (encoded page)) h.limit in (
      ap length is ∙ length-take-le s.limit (encoded page) within,
      is ∙ sym (take_longer s.limit (encoded page) (text_bytes s.encoding prefix.rest) within) ∙ ap (take s.limit) (sym (page_bytes s page whole h prefix)),
    )

-- A page's output is a beginning of the bytes of each list with its pieces.
pub holds_output : (prefix : List Event) (s : Effective) (follows : Bool) (error : Option yaml_error_t) (page : Page) (whole : List Piece)
    → HoldsPiecesWith error s prefix (steps s follows prefix at_stream first_standing).pieces page
    → IsPrefix (steps s follows prefix at_stream first_standing).pieces whole
    → page.output ≡ cut (length page.output) (bytes_written s whole)
holds_output [] s follows error page whole h begins =
    let none : page.output ≡ [] = ap (λ (p : Page). p.output) h in
    none ∙ sym (ap (λ (output : List ℕ). cut (length output) (bytes_written s whole)) none)
holds_output (x ∷ prefix) s follows error page whole h begins =
    output_begins s page whole h.0
    (prefix_longer s page.text (steps s follows (x ∷ prefix) at_stream first_standing).pieces whole
    (prefix_same page.text (text_written s (steps s follows (x ∷ prefix) at_stream first_standing).pieces) h.1) begins)
