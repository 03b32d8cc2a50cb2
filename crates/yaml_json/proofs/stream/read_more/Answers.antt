use Rattle.yaml_json.proofs.Common.{ℕ, List, [], append-nil, false≢true, refl, subst, sym, take, HasScanned, rules}
use Rattle.yaml_json.proofs.{Coming.none_came, Cutting.still_scanned}
use Rattle.std.specs.Io.KnownBytes.{Consumes}
use Rattle.yaml_json.proofs.stream.read_more.Goals as goal

pub returns-in-Ok-eq0 : goal.returns-in-Ok-eq0
returns-in-Ok-eq0 g c =
    record {
      come = (
        [],
        sym (append-nil c.args.incoming.now.held.items),
        subst (λ (count : ℕ). Consumes (g.R.Read.remaining c.args.reader.now) (g.R.Read.remaining c.read.new.self) (take count c.read.new.buf))
            c.in-Ok-eq0.field-0-test c.in-Ok-eq0.ensures.bytes.0,
      );
      incoming = c.requires.0;
      place = refl;
      end = λ none. (c.in-Ok-eq0.ensures.bytes.1 c.in-Ok-eq0.field-0-test (search rules), refl);
    }

pub returns-in-Interrupted : goal.returns-in-Interrupted
returns-in-Interrupted g c =
    record {
      come = (
        [],
        sym (append-nil c.args.incoming.now.held.items),
        none_came (g.R.Read.remaining c.args.reader.now) (g.R.Read.remaining c.read.new.self) (search rules),
      );
      incoming = c.requires.0;
      place = refl;
      end = λ none. absurd (false≢true (sym none));
    }
