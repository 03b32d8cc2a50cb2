use Rattle.yaml_writer.proofs.Common.{ℕ, Bool, List, Some, true, not, chars, option_map, ◌&&◌, if◌then◌else◌, ◌≡◌, ap, ap₂, ◌∙◌, rules}
use Rattle.yaml_writer.proofs.Common.{plain, scalar, seen_scalar_style, seen_text}
use Rattle.std.specs.Prelude.{bytes_eq}
use Rattle.yaml_base.specs.Event.{Scalar, ScalarStyle}
use Rattle.yaml_base.specs.graphs.Meetings.{string_tag}
use Rattle.yaml_writer.specs.{PlainTags.implies_tag, TypedEvents.typed_by}
use Rattle.yaml_writer.proofs.typed.typed_scalar.Goals as goal

pub returns : goal.returns
returns g c =
    let implied = c.implies_tag-is_implied.result in
    let text = c.is_string_tag-is_text.result in
    let own : ScalarStyle = seen_scalar_style c.args.style in
    let content : Scalar = record {
      anchor = option_map seen_text c.args.anchor;
      tag = Some (seen_text c.args.tag);
      value = seen_text c.args.value;
      plain_implicit = true;
      quoted_implicit = true;
      style = own;
    } in
    let style : seen_scalar_style c.if-is_implied.result ≡ (if implied && not text then plain else own) = search rules in
    ap (λ (s : ScalarStyle). scalar (record content { plain_implicit = implied; quoted_implicit = text; style = s })) style
    ∙ ap₂ (λ (i t : Bool). scalar (typed_by t i content))
    (c.implies_tag-is_implied.ensures
    ∙ ap₂ (λ (value tag : List ℕ). implies_tag (chars value) (chars tag)) c.as_str-2.ensures.value c.as_str-3.ensures.value)
    (c.is_string_tag-is_text.ensures ∙ ap (λ (tag : List ℕ). bytes_eq (chars tag) string_tag) c.as_str.ensures.value)
