-- The dump of a document that holds itself is accepted and fits, so that nothing but memory can give out.
use Rattle.yaml_caller.proofs.Common.{None, Some, Err, codes, true, [], refl, ◌≡◌, inl, inr, ap, ◌∙◌, any_style, block, scalar_node, no_documents}
use Rattle.yaml_caller.proofs.Common.{documents_and, Stream, IsAccepted, Graph, string_tag, mapping_tag, cycle_graph, cycle_settings, graph_events, State}
use Rattle.yaml_base.proofs.Common.{alias_node, mapping_node, no_pairs, pairs_and}
use Rattle.std.{proofs.Common.lit≤, specs.Char.encode_utf8}
use Rattle.yaml_base.specs.{declared.errors.yaml_error_t.yaml_error_t, declared.errors.yaml_error_t.TheVariants.Memory, graphs.Meetings.decimal_digits}
use Rattle.yaml_caller.proofs.{Dumped.cycle_events, OnlyMemory.only_memory, OnlyMemory.prefix_fits, OnlyMemory.shallow}
use Rattle.yaml_caller.specs.Alone.{DumpsAlone}
use Rattle.yaml_emitter.specs.Uncut.{IsUncut}

abbrev cycle_stream : Stream
cycle_stream =
    record {
      encoding = None;
      documents =
          documents_and no_documents
          (record {
            start = record { version = None; directives = []; implicit = true };
            root =
                mapping_node (record { anchor = Some (codes "id001"); tag = Some mapping_tag; implicit = true; style = block })
                (pairs_and no_pairs
                (scalar_node
                (record { anchor = None; tag = Some string_tag; value = codes "k"; plain_implicit = true; quoted_implicit = true; style = any_style }))
                (alias_node (codes "id001")));
            end_implicit = true;
          });
    }

accepted : IsAccepted true cycle_events
unfolding decimal_digits
accepted = record { stream = cycle_stream; is_stream = refl; sound = refl; shallow = shallow cycle_events (lit≤ tt) }

uncut : IsUncut cycle_settings cycle_events
unfolding encode_utf8 decimal_digits
uncut = lit≤ tt

-- so if the dump fails, memory gave out
pub cycle_failed : (graph : Graph) (after : State) (error : yaml_error_t) → graph ≡ cycle_graph → DumpsAlone cycle_settings graph (Err error) after
    → error ≡ Memory
cycle_failed graph after error is (inl memory) = memory
cycle_failed graph after error is (inr fails) =
    only_memory cycle_settings fails.all after error
    (prefix_fits cycle_settings cycle_events fails.all fails.rest accepted uncut (fails.parts ∙ ap graph_events is)) fails.promised fails.is
