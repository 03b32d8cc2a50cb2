-- The canonical reader makes the documents' contents of a stream's tokens.
use Rattle.yaml_emitter.proofs.Common.{fold, Option, None, Some, Bool, false, not, true, ◌&&◌, List, [], ◌++◌, ◌∷◌, refl, ◌≡◌, append-nil, append_assoc, ap}
use Rattle.yaml_emitter.proofs.Common.{sym, ◌∙◌, fold-append, Version, TagDirective, Document, Documents, no_documents, documents_and, has_directives, Head}
use Rattle.yaml_emitter.proofs.Common.{node_awaited, Reading, within, token_read, documents_read, Token, document_begins, DocumentContent, documents_content}
use Rattle.yaml_base.specs.reading.{CanonicalReader.outside, CanonicalReader.no_head, CanonicalReader.canonical_documents_at_end, Content.document_content}
use Rattle.yaml_emitter.proofs.canonical.{CanonicalEvents.EachNode, CanonicalFold.TagOf, CanonicalFold.node_fold}
use Rattle.yaml_emitter.proofs.canonical.CanonicalTokens.{node_tokens, version_tokens, tag_line_tokens, end_tokens, document_tokens, left_open}
use Rattle.yaml_emitter.proofs.canonical.CanonicalTokens.{documents_tokens}

-- outside documents, after some directives
record Outside (before : List DocumentContent) (head : Head) (reading : Reading) : Type 0 where
  may_end : Bool
  is : reading ≡ outside before head may_end

abbrev head_of : Option Version → List TagDirective → Head
head_of version directives = record { version = version; directives = directives }

closing_fold : (before : List DocumentContent) (some after_open : Bool)
    → Outside before no_head (fold token_read (outside before no_head after_open) (end_tokens (some && after_open)))
closing_fold before false after_open = record { may_end = after_open; is = refl }
closing_fold before true false = record { may_end = false; is = refl }
closing_fold before true true = record { may_end = false; is = refl }

version_fold : (before : List DocumentContent) (version : Option Version) (reading : Reading) → Outside before no_head reading
    → Outside before (head_of version []) (fold token_read reading (version_tokens version))
version_fold before None reading stands = stands
version_fold before (Some version) reading stands = record { may_end = false; is = ap (λ r. fold token_read r (version_tokens (Some version))) stands.is }

lines_fold : (before : List DocumentContent) (version : Option Version) (more own : List TagDirective) (reading : Reading)
    → Outside before (head_of version own) reading
    → Outside before (head_of version (own ++ more)) (fold token_read reading (tag_line_tokens more))
lines_fold before version [] own reading stands =
    record { may_end = stands.may_end; is = stands.is ∙ ap (λ d. outside before (head_of version d) stands.may_end) (sym (append-nil own)) }
lines_fold before version (directive ∷ more) own reading stands =
    let next : Outside before (head_of version (own ++ directive ∷ []))
    (outside before (head_of version (own ++ directive ∷ [])) false) = record { may_end = false; is = refl } in
    let after = lines_fold before version more (own ++ directive ∷ []) (outside before (head_of version (own ++ directive ∷ [])) false) next in
    record {
      may_end = after.may_end;
      is =
          ap (λ r. fold token_read r (tag_line_tokens (directive ∷ more))) stands.is
          ∙ after.is ∙ ap (λ d. outside before (head_of version d) after.may_end) (append_assoc own (directive ∷ []) more);
    }

end_fold : (contents : List DocumentContent) (implicit : Bool)
    → fold token_read (outside contents no_head true) (end_tokens (not implicit)) ≡ outside contents no_head implicit
end_fold contents true = refl
end_fold contents false = refl

begins_fold : (before : List DocumentContent) (head : Head) (reading : Reading) → Outside before head reading
    → token_read reading document_begins ≡ within before head [] (node_awaited None None)
begins_fold before head reading stands = ap (λ r. token_read r document_begins) stands.is

-- each document's nodes meet the conditions of the reader
abbrev pub EachDocument : (portable : Bool) → Documents → Type 0
EachDocument portable no_documents = Unit {0}
EachDocument portable (documents_and before document) = EachDocument portable before × EachNode document.root (TagOf portable document.start.directives)

document_fold : (portable : Bool) (x : Document) (before : List DocumentContent) (after_open : Bool) → EachNode x.root (TagOf portable x.start.directives)
    → fold token_read (outside before no_head after_open) (document_tokens portable after_open x)
    ≡ outside (before ++ document_content x ∷ []) no_head x.end_implicit
document_fold portable x before after_open h =
    let z = outside before no_head after_open in
    let a = end_tokens (has_directives x.start && after_open) in
    let v = version_tokens x.start.version in
    let l = tag_line_tokens x.start.directives in
    let b : List Token = document_begins ∷ [] in
    let n = node_tokens portable x.root x.start.directives in
    let e = end_tokens (not x.end_implicit) in
    let after_a = closing_fold before (has_directives x.start) after_open in
    let after_v = version_fold before x.start.version (fold token_read z a) after_a in
    let after_l = lines_fold before x.start.version x.start.directives [] (fold token_read (fold token_read z a) v) after_v in
    fold-append token_read z ((((a ++ v) ++ l) ++ b) ++ n) e
    ∙ ap (λ r. fold token_read r e)
    (fold-append token_read z (((a ++ v) ++ l) ++ b) n
    ∙ ap (λ r. fold token_read r n)
    (fold-append token_read z ((a ++ v) ++ l) b
    ∙ ap (λ r. fold token_read r b) (fold-append token_read z (a ++ v) l ∙ ap (λ r. fold token_read r l) (fold-append token_read z a v))
    ∙ begins_fold before (head_of x.start.version x.start.directives) (fold token_read (fold token_read (fold token_read z a) v) l) after_l)
    ∙ node_fold portable before (head_of x.start.version x.start.directives) x.root [] h)
    ∙ end_fold (before ++ document_content x ∷ []) x.end_implicit

pub documents_fold : (portable : Bool) (x : Documents) → EachDocument portable x
    → fold token_read (outside [] no_head false) (documents_tokens portable x) ≡ outside (documents_content x) no_head (left_open x)
documents_fold portable no_documents h = refl
documents_fold portable (documents_and before document) h =
    fold-append token_read (outside [] no_head false) (documents_tokens portable before) (document_tokens portable (left_open before) document)
    ∙ ap (λ r. fold token_read r (document_tokens portable (left_open before) document)) (documents_fold portable before h.0)
    ∙ document_fold portable document (documents_content before) (left_open before) h.1

-- a stream's tokens read as its documents
pub stream_read : (portable : Bool) (x : Documents) → EachDocument portable x → documents_read (documents_tokens portable x) ≡ Some (documents_content x)
stream_read portable x h = ap canonical_documents_at_end (documents_fold portable x h)
