use Rattle.yaml_json.proofs.Common.{◌≡◌, ◌+◌, ◌-◌, ◌<◌, ◌++◌, None, Some, drop, get_or, length, List, ℕ, subst, sym, ap, ◌∙◌, arith, after_backslash, content}
use Rattle.yaml_json.proofs.Common.{prepend, ArePlain, Unescapes, IsCharBoundary, string_bytes, encode_utf8, get_or-drop, length-drop}
use Rattle.yaml_json.proofs.Common.{IsCharBoundary-after_ascii}
use Rattle.json.specs.Text.{plain}
use Rattle.yaml_json.proofs.ContentSteps.{closes_here, content-control, escape_more, none_at_end, none_more, past_backslash, rest_is, run_more}
use Rattle.yaml_json.proofs.escapes.unescape.Goals as goal

pub returns-then-stop-bytes : goal.returns-then-stop-bytes
returns-then-stop-bytes g c =
    let d = c.args.text.now in
    let l = c.runs in
    let stop = c.plain_end-stop.result in
    let same = c.as_bytes-bytes.ensures.value in
    let are = subst (λ (t : List ℕ). ArePlain t l.at stop) same c.plain_end-stop.ensures in
    let so_far = run_more d (string_bytes l.string) c.range.result.now c.args.from l.at stop are c.range.ensures.value l.invariant.1 in
    none_more d _ c.args.from stop so_far (none_at_end plain d stop (omega (arith, ap length same)))

pub returns-then-bytes-stop-eq34 : goal.returns-then-bytes-stop-eq34
returns-then-bytes-stop-eq34 g c =
    let d = c.args.text.now in
    let l = c.runs in
    let stop = c.plain_end-stop.result in
    let same = c.as_bytes-bytes.ensures.value in
    let are = subst (λ (t : List ℕ). ArePlain t l.at stop) same c.plain_end-stop.ensures in
    let so_far = run_more d (string_bytes l.string) c.range.result.now c.args.from l.at stop are c.range.ensures.value l.invariant.1 in
    let within : stop < length d = omega (arith, ap length same, are.within) in
    closes_here d _ c.args.from stop so_far within (ap (λ t. get_or t stop 0) (sym same) ∙ c.if-bytes-stop-eq34.true)
    ∙ ap Some (sym c.in_ok-push_str.ensures.bytes)

pub returns-then-bytes-stop-ne92 : goal.returns-then-bytes-stop-ne92
returns-then-bytes-stop-ne92 g c =
    let d = c.args.text.now in
    let l = c.runs in
    let stop = c.plain_end-stop.result in
    let same = c.as_bytes-bytes.ensures.value in
    let are = subst (λ (t : List ℕ). ArePlain t l.at stop) same c.plain_end-stop.ensures in
    let so_far = run_more d (string_bytes l.string) c.range.result.now c.args.from l.at stop are c.range.ensures.value l.invariant.1 in
    let within : stop < length d = omega (arith, ap length same, are.within) in
    let byte : get_or c.as_bytes-bytes.result.now stop 0 ≡ get_or d stop 0 = ap (λ t. get_or t stop 0) same in
    none_more d _ c.args.from stop so_far
    (content-control d stop within (are.stops within) (λ e. c.if-bytes-stop-eq34.false (byte ∙ e)) (λ e. c.if-bytes-stop-ne92.true (byte ∙ e)))

pub returns-in-None : goal.returns-in-None
returns-in-None g c =
    let d = c.args.text.now in
    let l = c.runs in
    let stop = c.plain_end-stop.result in
    let same = c.as_bytes-bytes.ensures.value in
    let are = subst (λ (t : List ℕ). ArePlain t l.at stop) same c.plain_end-stop.ensures in
    let so_far = run_more d (string_bytes l.string) c.range.result.now c.args.from l.at stop are c.range.ensures.value l.invariant.1 in
    let within : stop < length d = omega (arith, ap length same, are.within) in
    let slash = ap (λ t. get_or t stop 0) (sym same) ∙ c.if-bytes-stop-ne92.false in
    let rest : List ℕ = drop (stop + 1) c.as_bytes-bytes.result.now in
    let none : content after_backslash rest ≡ None = subst (λ (t : List ℕ). content after_backslash t ≡ None) (rest_is c.as_bytes-bytes.result.now (stop + 1)) c.in-None.ensures in
    let read : content after_backslash (drop (stop + 1) d) ≡ None = ap (λ t. content after_backslash (drop (stop + 1) t)) (sym same) ∙ none in
    none_more d _ c.args.from stop so_far (past_backslash d stop within slash ∙ read)

pub runs-preserved : goal.runs-preserved
runs-preserved g c =
    let d = c.args.text.now in
    let l = c.runs in
    let stop = c.plain_end-stop.result in
    let same = c.as_bytes-bytes.ensures.value in
    let are = subst (λ (t : List ℕ). ArePlain t l.at stop) same c.plain_end-stop.ensures in
    let so_far = run_more d (string_bytes l.string) c.range.result.now c.args.from l.at stop are c.range.ensures.value l.invariant.1 in
    let within : stop < length d = omega (arith, ap length same, are.within) in
    let slash = ap (λ t. get_or t stop 0) (sym same) ∙ c.if-bytes-stop-ne92.false in
    let size = c.in-Some.size in
    let character = c.in-Some.character in
    let there = subst (λ (t : List ℕ). Unescapes after_backslash t (Some (character, size))) (rest_is c.as_bytes-bytes.result.now (stop + 1)) c.in-Some.ensures in
    let read = subst (λ (t : List ℕ). Unescapes after_backslash (drop (stop + 1) t) (Some (character, size))) same there in
    let back : stop + 1 + size - 1 + 1 ≡ stop + 1 + size = omega (arith, read.1) in
    let last : stop + 1 + (size - 1) ≡ stop + 1 + size - 1 = omega (arith, read.1) in
    let ascii : get_or d (stop + 1 + size - 1) 0 < 128 =
    subst (λ byte. byte < 128) (get_or-drop (stop + 1) d (size - 1) 0 ∙ ap (λ k. get_or d k 0) last) read.3 in
    let end : stop + 1 + size - 1 < length d = omega (arith, read.1, read.2, length-drop (stop + 1) d) in
    let all = escape_more d _ (encode_utf8 character) c.args.from stop size so_far within slash read.0 in (
      subst (IsCharBoundary d) back (IsCharBoundary-after_ascii d (stop + 1 + size - 1) c.utf8.text end ascii),
      all ∙ ap (λ s. prepend s (content plain (drop (stop + 1 + size) d)))
          (sym (c.in_ok-push-in-Some.ensures.bytes ∙ ap (λ b. b ++ encode_utf8 c.in-Some.character) c.in_ok-push_str.ensures.bytes)),
    )
