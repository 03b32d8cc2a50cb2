use Rattle.yaml_read.proofs.Common.{◌++◌, ◌∷◌, [], codes, encode_utf8_all, map, line_feed, seen_event}
use Rattle.yaml_read.proofs.{Turns.cut_is, Words.memory_is, Words.no_word, DocumentsRead.events_sound, DocumentsRead.events_stop}
use Rattle.yaml_read.proofs.{DocumentsRead.first_line_stops}
use Rattle.yaml_read.proofs.runs.read_events.Goals as goal

pub returns-in-Err : goal.returns-in-Err
returns-in-Err g c =
    record {
      reads =
          λ events run.
          absurd (no_word (codes "---\n") c.args.text.now (encode_utf8_all (run.node ++ line_feed ∷ [])) c.in-Err.ensures.cut run.parts);
      sound = tt;
      stops = first_line_stops c.args.text.now c.in-Err.stop c.in-Err.ensures.cut c.in-Err.ensures.placed;
    }

pub returns-in-Ok-read_run : goal.returns-in-Ok-read_run
returns-in-Ok-read_run g c =
    record {
      reads =
          λ events run.
          c.in-Ok-read_run.ensures.only events run.node run.run run.in_node
          (cut_is (codes "---\n") c.args.text.now c.in-Ok.node.now (encode_utf8_all (run.node ++ line_feed ∷ [])) c.in-Ok.ensures.cut run.parts);
      sound = events_sound c.args.text.now c.in-Ok.node.now (map seen_event c.read_run.new.events.items) c.in-Ok.ensures.cut c.in-Ok-read_run.ensures.sound;
      stops = tt;
    }

pub returns-in-Err-read_run : goal.returns-in-Err-read_run
returns-in-Err-read_run g c =
    record {
      reads =
          λ events run.
          memory_is c.in-Err-read_run.stop (c.in-Err-read_run.ensures.reads events run.node run.run run.in_node
          (cut_is (codes "---\n") c.args.text.now c.in-Ok.node.now (encode_utf8_all (run.node ++ line_feed ∷ [])) c.in-Ok.ensures.cut run.parts));
      sound = tt;
      stops = events_stop c.args.text.now c.in-Ok.node.now c.in-Err-read_run.stop c.in-Ok.ensures.cut c.in-Err-read_run.ensures.stops;
    }
