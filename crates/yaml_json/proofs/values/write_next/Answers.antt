use Rattle.yaml_json.proofs.Common.{Err, Ok, false, true, [], ◌++◌, ◌∷◌, refl, ◌≡◌, ap, sym, ◌∙◌, arith, closer, token_of, Mapping, Sequence, at, At}
use Rattle.yaml_json.proofs.Common.{PastString}
use Rattle.json.specs.declared.token.Token.{Token}
use Rattle.yaml_json.proofs.{Closing.closes_is, Closing.closes_not, Closing.no_name, Closing.no_string, Stops.again_stopped, Stops.member_stopped}
use Rattle.yaml_json.proofs.{Stops.string_stopped, WalkCalls.answered_end, WalkCalls.answered_key, WalkCalls.walk_closed, WalkCalls.walk_item}
use Rattle.yaml_json.proofs.{WalkCalls.walk_member, WalkCalls.walk_missing, WalkCalls.walk_refused, WalkCalls.walk_unnamed, WalkCalls.walk_without_memory}
use Rattle.json.specs.Token as tokens
use Rattle.yaml_json.specs.declared.values.Stop.TheVariants as stops
use Rattle.yaml_json.proofs.values.write_next.Goals as goal

pub returns-in-Err-clause-steps : goal.returns-in-Err-clause-steps
returns-in-Err-clause-steps g c =
    let a = c.args in
    let before = at a.nest.now a.writer.now in
    let inner = c.requires.innermost in
    walk_missing _ _ _ _ before _ c.requires.fits _ inner.is c.in-Err.ensures.before _ c.in-Err.ensures.refused

-- ---- the end of the collection

pub returns-then-closes-clause-steps : goal.returns-then-closes-clause-steps
returns-then-closes-clause-steps g c =
    let a = c.args in
    let inner = c.requires.innermost in
    let is = closes_is (token_of c.in-Ok.token) a.kind (sym c.closes.ensures ∙ c.if-closes.true) in
    walk_closed _ _ _ _ _ _ c.requires.fits _ inner.is (c.in-Ok.ensures.first ∙ ap (λ (t : tokens.Token). t ∷ c.next_token.new.reader.ahead) is)
    c.in-Ok.ensures.before c.leave.ensures.left c.leave.ensures.names _
    (answered_end _ _ _ c.requires.within c.requires.bare _ _ c.answer_of.ensures c.leave.ensures.ends)

-- ---- an item

pub returns-in-Sequence-clause-steps : goal.returns-in-Sequence-clause-steps
returns-in-Sequence-clause-steps g c =
    let a = c.args in
    let inner = c.requires.innermost in
    let is : a.nest.now.kinds.items ≡ inner.outer ++ Sequence ∷ [] = inner.is ∙ ap (λ kind. inner.outer ++ kind ∷ []) c.in-Sequence.is in
    let other = closes_not (token_of c.in-Ok.token) a.kind (sym c.closes.ensures ∙ c.if-closes.false) in
    let isn't = λ (end : token_of c.in-Ok.token ≡ tokens.end_array). other (end ∙ ap closer (sym c.in-Sequence.is)) in
    walk_item _ _ _ _ _ _ c.requires.fits is _ isn't c.in-Ok.ensures.first c.in-Ok.ensures.before _ c.write_token.ensures

-- ---- a name

pub returns-in-Err-add-clause-steps : goal.returns-in-Err-add-clause-steps
returns-in-Err-add-clause-steps g c = walk_without_memory c.args.settings.now c.args.reader.now c.next_token.new.reader (at c.args.nest.now c.args.writer.now) _

pub returns-then-not-new-clause-steps : goal.returns-then-not-new-clause-steps
returns-then-not-new-clause-steps g c =
    let a = c.args in
    let inner = c.requires.innermost in
    let is : a.nest.now.kinds.items ≡ inner.outer ++ Mapping ∷ [] = inner.is ∙ ap (λ kind. inner.outer ++ kind ∷ []) c.in-Mapping.is in
    let first : a.reader.now.ahead ≡ tokens.key c.in-Key.key.now ∷ c.next_token.new.reader.ahead =
    c.in-Ok.ensures.first ∙ ap (λ (t : Token). token_of t ∷ c.next_token.new.reader.ahead) c.in-Key.is in
    let old : c.in-Ok-add.new ≡ false = grind arith in
    walk_refused a.settings.now a.reader.now c.next_token.new.reader (at a.nest.now a.writer.now) _ stops.NameAgain tt
    (again_stopped a.settings.now.values.depth a.settings.now.unique_names a.settings.now.values.flow a.nest.now.kinds.items inner.outer a.nest.now.names
    c.requires.fits.1 a.reader.now.ahead a.writer.now a.writer.now refl c.next_token.new.reader.before c.in-Ok.ensures.before is c.in-Key.key.now
    c.next_token.new.reader.ahead first c.add.new.self c.in-Ok-add.ensures.kept c.in-Ok-add.new c.in-Ok-add.ensures.adds old)
    tt

pub returns-in-Err-answer_of-clause-steps : goal.returns-in-Err-answer_of-clause-steps
returns-in-Err-answer_of-clause-steps g c =
    let a = c.args in
    let inner = c.requires.innermost in
    let is : a.nest.now.kinds.items ≡ inner.outer ++ Mapping ∷ [] = inner.is ∙ ap (λ kind. inner.outer ++ kind ∷ []) c.in-Mapping.is in
    let key = c.in-Key.key.now in
    let first : a.reader.now.ahead ≡ tokens.key key ∷ c.next_token.new.reader.ahead =
    c.in-Ok.ensures.first ∙ ap (λ (t : Token). token_of t ∷ c.next_token.new.reader.ahead) c.in-Key.is in
    walk_unnamed _ _ _ c.next_token.new.reader _ (at a.nest.now a.writer.now) _ c.requires.fits is _ first _ _ _
    (answered_key _ _ _ c.requires.bare _ _ c.in-Err-answer_of.ensures c.text.ensures)

pub returns-in_default-answer_of-clause-steps : goal.returns-in_default-answer_of-clause-steps
returns-in_default-answer_of-clause-steps g c =
    let a = c.args in
    let inner = c.requires.innermost in
    let is : a.nest.now.kinds.items ≡ inner.outer ++ Mapping ∷ [] = inner.is ∙ ap (λ kind. inner.outer ++ kind ∷ []) c.in-Mapping.is in
    let key = c.in-Key.key.now in
    let first : a.reader.now.ahead ≡ tokens.key key ∷ c.next_token.new.reader.ahead =
    c.in-Ok.ensures.first ∙ ap (λ (t : Token). token_of t ∷ c.next_token.new.reader.ahead) c.in-Key.is in
    let fresh : c.in-Ok-add.new ≡ true = grind arith in
    let wrote = answered_key a.writer.now c.text.new.self key c.requires.bare c.text.result (Ok tt) c.in_default-answer_of.ensures c.text.ensures in
    walk_member _ _ _ _ _ _ _ c.requires.fits is _ first _ _ c.in-Ok-add.ensures.kept _ c.in-Ok-add.ensures.adds fresh wrote.done wrote.kept
    c.write_first.ensures.before _ c.write_first.ensures.steps

pub write_first-requires-clause-bare : goal.write_first-requires-clause-bare
write_first-requires-clause-bare g c =
    (answered_key c.args.writer.now c.text.new.self c.in-Key.key.now c.requires.bare c.text.result (Ok tt) c.in_default-answer_of.ensures c.text.ensures).done.bare

pub write_first-requires-clause-fits : goal.write_first-requires-clause-fits
write_first-requires-clause-fits g c =
    let fits = c.requires.fits in
    let added = c.in-Ok-add.ensures in
    (fits.0, (added.kept ∙ fits.1.0, λ kept. added.as_long ∙ fits.1.1 (sym added.kept ∙ kept)))

-- ---- neither

pub returns-in-String-clause-steps : goal.returns-in-String-clause-steps
returns-in-String-clause-steps g c =
    let a = c.args in
    let inner = c.requires.innermost in
    let is : a.nest.now.kinds.items ≡ inner.outer ++ Mapping ∷ [] = inner.is ∙ ap (λ kind. inner.outer ++ kind ∷ []) c.in-Mapping.is in
    let text = c.in-String.field-0.now in
    let first : a.reader.now.ahead ≡ tokens.string text ∷ c.next_token.new.reader.ahead =
    c.in-Ok.ensures.first ∙ ap (λ (t : Token). token_of t ∷ c.next_token.new.reader.ahead) c.in-String.is in
    walk_refused _ _ _ _ _ _ tt (string_stopped _ _ _ _ _ _ c.requires.fits.1 _ _ _ refl _ c.in-Ok.ensures.before is _ _ first) tt

pub returns-in_default-clause-steps : goal.returns-in_default-clause-steps
returns-in_default-clause-steps g c =
    let a = c.args in
    let inner = c.requires.innermost in
    let is : a.nest.now.kinds.items ≡ inner.outer ++ Mapping ∷ [] = inner.is ∙ ap (λ kind. inner.outer ++ kind ∷ []) c.in-Mapping.is in
    let token = token_of c.in-Ok.token in
    let other = closes_not token a.kind (sym c.closes.ensures ∙ c.if-closes.false) in
    let no_end = λ (end : token ≡ tokens.end_object). other (end ∙ ap closer (sym c.in-Mapping.is)) in
    walk_refused _ _ _ _ _ _ tt (member_stopped _ _ _ _ _ _ c.requires.fits.1 _ _ _ refl _ c.in-Ok.ensures.before is _ _ c.in-Ok.ensures.first
    (no_name _ c.in_default.not-Key, no_end) (no_string _ _ c.in_default.not-Key c.in_default.not-String)) tt

-- ---- the requirements of the calls

pub leave-requires : goal.leave-requires
leave-requires g c = record { bare = c.requires.bare }

pub write_token-requires : goal.write_token-requires
write_token-requires g c = record { bare = c.requires.bare; fits = c.requires.fits; good = c.in-Ok.ensures.printable }
