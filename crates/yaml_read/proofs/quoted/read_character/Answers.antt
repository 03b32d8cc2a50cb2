use Rattle.yaml_read.proofs.{Common.sym, Common.◌∙◌, Common.true≢false, Common.IfSome_then, FirstCharacters.backslash_first, FirstCharacters.character_there}
use Rattle.yaml_read.proofs.{FirstCharacters.itself_first, CharactersRead.escape_read, CharactersRead.itself_read, CharactersRead.scalar_of}
use Rattle.yaml_read.proofs.quoted.read_character.Goals as goal

pub returns-in-None : goal.returns-in-None
returns-in-None c = record { reads = λ d rest scalar is. absurd (character_there d rest c.args.text.now is c.in-None.ensures.cut); sound = tt }

pub returns-then-c-eq92 : goal.returns-then-c-eq92
returns-then-c-eq92 c =
    record {
      reads =
          λ d rest scalar is.
          let escape = backslash_first d rest _ _ c.in-Some.rest.now is c.in-Some.ensures.cut c.if-c-eq92.true in
          c.read_escape.ensures.reads d rest scalar escape.0 escape.1;
      sound = IfSome_then c.read_escape.result c.read_escape.ensures.sound (λ found is. escape_read _ _ _ _ _ is c.in-Some.ensures.cut c.if-c-eq92.true);
    }

pub returns-then-needs_escape : goal.returns-then-needs_escape
returns-then-needs_escape c =
    record {
      reads =
          λ d rest scalar is.
          let plain = itself_first d rest c.in-Some.c c.args.text.now c.in-Some.rest.now is c.in-Some.ensures.cut c.if-c-eq92.false in
          true≢false (sym c.if-needs_escape.true ∙ c.needs_escape.ensures ∙ plain.0);
      sound = tt;
    }

pub returns-else-needs_escape : goal.returns-else-needs_escape
returns-else-needs_escape c =
    record {
      reads =
          λ d rest scalar is.
          let plain = itself_first d rest c.in-Some.c _ c.in-Some.rest.now is c.in-Some.ensures.cut c.if-c-eq92.false in
          (plain.1, plain.2);
      sound =
          itself_read c.args.text.now c.in-Some.rest.now c.in-Some.c (scalar_of _ c.in-Some.rest.now c.in-Some.c c.utf8.text c.in-Some.ensures.cut)
          (sym c.needs_escape.ensures ∙ c.if-needs_escape.false) c.in-Some.ensures.cut;
    }
