use Rattle.yaml_emitter.proofs.Common.{◌+◌, refl, ap, sym, ◌∙◌, chars, byte_count, is_short, is_key, seen_place, seen_role}
use Rattle.yaml_emitter.specs.declared.place.{Role.Role}
use Rattle.yaml_emitter.proofs.pieces.SimpleAsciiChoices.{simple_ascii_key}
use Rattle.yaml_emitter.proofs.writing.simple_keys.is_simple_ascii_key.Goals as goal

pub returns-in-Key : goal.returns-in-Key
returns-in-Key c = λ canonical directives content stands same.
    c.is_short_count.ensures 0 refl
    ∙ ap (λ n. is_short (n + 0 + 0)) (c.byte_count.ensures ∙ ap (λ v. byte_count (chars v)) (sym same))
    ∙ simple_ascii_key (is_key (seen_place c.args.place.now).role) directives (ap (λ (r : Role). is_key (seen_role r)) c.in-Key.is) stands
