use Rattle.yaml_tool.proofs.Common.{option_map, Some, ◌++◌, append-nil, ap, sym, ◌∙◌, chars, Text, seen_text, at_character, text_from}
use Rattle.yaml_tool.proofs.TextLemmas.{one_more, nothing_before, skipped_taken}
use Rattle.yaml_tool.proofs.texts.text_after_quote.Goals as goal

pub loop-text-init : goal.loop-text-init
loop-text-init g c = record {
  utf8 = c.utf8.behind;
  read = nothing_before c.in_ok-text.text (text_from at_character (chars c.args.behind.now)) c.in_ok-text.ensures.bytes;
}

pub loop-text-preserved : goal.loop-text-preserved
loop-text-preserved g c = record {
  utf8 = c.in-StandsFor.ensures.2;
  read =
      c.loop-text.invariant.read
      ∙ skipped_taken c.loop-text.text c.push_str.new.self c.loop-text.rest.now c.from_delimiter-special.result.now c.prefix_before.result.now
      c.loop-text.invariant.utf8 c.from_delimiter-special.ensures c.prefix_before.ensures c.in_ok-push_str.ensures.bytes
      ∙ ap (λ read. option_map (λ more. seen_text c.push_str.new.self ++ more) read) c.in-StandsFor.ensures.0
      ∙ one_more c.push_str.new.self c.push.new.self c.in-StandsFor.character
      (text_from at_character (chars c.in-StandsFor.others.now)) c.in_ok-push-in-StandsFor.ensures.bytes;
}

pub returns-in-Ends : goal.returns-in-Ends
returns-in-Ends g c =
    sym (c.loop-text.invariant.read
    ∙ skipped_taken c.loop-text.text c.push_str.new.self c.loop-text.rest.now c.from_delimiter-special.result.now c.prefix_before.result.now
    c.loop-text.invariant.utf8 c.from_delimiter-special.ensures c.prefix_before.ensures c.in_ok-push_str.ensures.bytes
    ∙ ap (λ read. option_map (λ more. seen_text c.push_str.new.self ++ more) read) c.in-Ends.ensures
    ∙ ap (λ (all : Text). Some all) (append-nil (seen_text c.push_str.new.self)))

pub returns-in-Fails : goal.returns-in-Fails
returns-in-Fails g c =
    sym (c.loop-text.invariant.read
    ∙ skipped_taken c.loop-text.text c.push_str.new.self c.loop-text.rest.now c.from_delimiter-special.result.now c.prefix_before.result.now
    c.loop-text.invariant.utf8 c.from_delimiter-special.ensures c.prefix_before.ensures c.in_ok-push_str.ensures.bytes
    ∙ ap (λ read. option_map (λ more. seen_text c.push_str.new.self ++ more) read) c.in-Fails.ensures)
