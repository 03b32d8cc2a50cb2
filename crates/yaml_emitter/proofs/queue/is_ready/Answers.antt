use Rattle.yaml_emitter.proofs.Common.{◌+◌, ◌==◌, nat_lt, length, Bool, false, true, ◌||◌, List, [], map, ◌++◌, ◌∷◌, ◌≡◌, le-ltb, ne_eqb, ap, sym, ◌∙◌, arith}
use Rattle.yaml_emitter.proofs.Common.{list_any, Event, awaited, is_balanced, nonempty_prefixes, seen_event, is_head_ready, length-append, length-map}
use Rattle.std.specs.Prelude.{◌<◌, ◌≤◌, ◌-◌, true}
use Rattle.yaml_base.specs.Ready.{is_start}
use Rattle.yaml_emitter.proofs.standing.{WritingAll.or_middle, WrittenPrefixes.awaiting_starts}
use Rattle.std.proofs.lemmas.Bool.{lt-ltb, le-leb}
use Rattle.yaml_emitter.proofs.queue.is_ready.Goals as goal

-- the number of events from the first on
long : {E : Type 0} (seen : E → Event) (first : Event) (rest : List E) (last : Event) → length (first ∷ (map seen rest ++ last ∷ [])) ≡ length rest + 2
long seen first rest last = omega (arith, length-append (map seen rest) (last ∷ []), length-map rest seen)

-- if they are too few, the events that they close decide
by_closing : {E : Type 0} (seen : E → Event) (first : Event) (rest : List E) (last : Event) (closes : Bool) → length rest < awaited first - 1
    → (is_start first ≡ true → closes ≡ list_any is_balanced (nonempty_prefixes (first ∷ (map seen rest ++ last ∷ []))))
    → closes ≡ is_head_ready (first ∷ (map seen rest ++ last ∷ []))
by_closing seen first rest last closes few closed =
    let all = first ∷ (map seen rest ++ last ∷ []) in
    let some : (awaited first == 0) ≡ false = ne_eqb (awaited first) 0 (λ none. omega (arith, few, none)) in
    closed (awaiting_starts first some)
    ∙ sym
    (ap (λ b. b || nat_lt (awaited first) (length all) || list_any is_balanced (nonempty_prefixes all)) some
    ∙ ap (λ b. b || list_any is_balanced (nonempty_prefixes all)) (le-ltb (awaited first) (length all) (omega (arith, few, long seen first rest last))))

-- if they are enough, it is ready
by_many : {E : Type 0} (seen : E → Event) (first : Event) (rest : List E) (last : Event) → awaited first - 1 ≤ length rest
    → true ≡ is_head_ready (first ∷ (map seen rest ++ last ∷ []))
by_many seen first rest last many =
    let all = first ∷ (map seen rest ++ last ∷ []) in
    sym (or_middle (awaited first == 0) (nat_lt (awaited first) (length all)) (list_any is_balanced (nonempty_prefixes all))
    (lt-ltb (awaited first) (length all) (omega (arith, many, long seen first rest last))))

pub returns-then-saturating_sub-rest : goal.returns-then-saturating_sub-rest
returns-then-saturating_sub-rest g c = λ last stands.
    le-leb c.saturating_sub.result (length c.args.rest.now) c.if-saturating_sub-rest.true
    ∙ by_many seen_event (seen_event c.args.event.now) c.args.rest.now last
    (omega (arith, c.if-saturating_sub-rest.true, c.saturating_sub.ensures, c.followers.ensures))

pub returns-else-saturating_sub-rest : goal.returns-else-saturating_sub-rest
returns-else-saturating_sub-rest g c = λ last stands.
    by_closing seen_event (seen_event c.args.event.now) c.args.rest.now last c.closes.result
    (omega (arith, c.if-saturating_sub-rest.false, c.saturating_sub.ensures, c.followers.ensures)) (λ starts. c.closes.ensures _ last starts stands)
