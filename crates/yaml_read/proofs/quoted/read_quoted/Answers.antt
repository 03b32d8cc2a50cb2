use Rattle.yaml_read.proofs.Common.{◌∷◌, List, [], ℕ, None, Some, inl, refl, subst, sym, rules, arith, codes, string_bytes, characters}
use Rattle.yaml_read.proofs.QuotedTexts.{ReadsOn, reads_more, text_read, opening_there, reads_first}
use Rattle.yaml_read.proofs.CharactersRead.{one_more, ReadSoFar, all_read, none_yet, character_shorter}
use Rattle.yaml_read.proofs.BreakingNodes.{no_character, passes_character, passes_quote, utf8_left}
use Rattle.yaml_read.proofs.Breaking.{missing}
use Rattle.yaml_read.proofs.quoted.read_quoted.Goals as goal

pub returns-in-Err : goal.returns-in-Err
returns-in-Err g c =
    record {
      reads = λ value rest scalars is. absurd (opening_there _ value rest is c.in-Err.ensures.cut);
      sound = tt;
      breaks = missing _ _ characters c.in-Err.stop (codes "\"" ∷ []) c.in-Err.ensures.cut c.in-Err.ensures.placed (inl (refl, tt));
      shorter = tt;
    }

pub returns-in-Some : goal.returns-in-Some
returns-in-Some g c =
    record {
      reads =
          λ value rest scalars is.
          text_read c.characters.value value rest c.args.text.now c.characters.rest.now c.in-Some.end.now c.characters.invariant.2
          c.in-Some.ensures.cut scalars is;
      sound = all_read c.args.text.now c.characters.rest.now c.in-Some.end.now c.characters.value c.characters.invariant.3 c.in-Some.ensures.cut;
      breaks = tt;
      shorter = omega (arith, c.characters.invariant.1, c.in-Some.ensures.shorter);
    }

pub returns-in-None-read_character : goal.returns-in-None-read_character
returns-in-None-read_character g c =
    record {
      reads =
          λ value rest scalars is.
          absurd (reads_more _ (string_bytes c.characters.value) c.characters.rest.now None c.characters.invariant.2 c.in-None.ensures.cut
          c.in-None-read_character.ensures.reads value rest scalars is);
      sound = tt;
      breaks =
          no_character _ _ c.refused_at.result c.characters.invariant.4 (utf8_left _ _ _ c.utf8.text c.characters.invariant.3) c.in-None.ensures.cut
          c.in-None-read_character.ensures.reads c.refused_at.ensures;
      shorter = tt;
    }

pub characters-init : goal.characters-init
characters-init g c = (
  search rules,
  omega (arith, c.in-Ok.ensures.shorter),
  subst (λ (value : List ℕ). ReadsOn c.args.text.now value c.in-Ok.rest.now) (sym c.new-value.ensures.bytes)
      (reads_first c.args.text.now c.in-Ok.rest.now c.in-Ok.ensures.cut),
  subst (λ (value : List ℕ). ReadSoFar c.args.text.now value c.in-Ok.rest.now) (sym c.new-value.ensures.bytes)
      (none_yet c.args.text.now c.in-Ok.rest.now c.in-Ok.ensures.cut),
  passes_quote c.args.text.now c.in-Ok.rest.now c.in-Ok.ensures.cut,
)

pub characters-smaller : goal.characters-smaller
characters-smaller g c = character_shorter _ _ _ c.in-Some-read_character.ensures.sound

pub characters-preserved : goal.characters-preserved
characters-preserved g c = (
  search rules,
  omega (arith, c.characters.invariant.1, character_shorter _ _ _ c.in-Some-read_character.ensures.sound),
  subst (λ (value : List ℕ). ReadsOn c.args.text.now value c.in-Some-read_character.next.now) (sym c.in-Ok-push.ensures.bytes)
      (record {
        left = λ value rest scalars is.
            reads_more _ (string_bytes c.characters.value) c.characters.rest.now (Some (c.in-Some-read_character.c, c.in-Some-read_character.next))
            c.characters.invariant.2 c.in-None.ensures.cut c.in-Some-read_character.ensures.reads value rest scalars is;
      }),
  subst (λ (value : List ℕ). ReadSoFar c.args.text.now value c.in-Some-read_character.next.now) (sym c.in-Ok-push.ensures.bytes)
      (one_more _ _ _ _ _ c.characters.invariant.3 c.in-Some-read_character.ensures.sound),
  passes_character _ _ _ _ c.characters.invariant.4 c.in-None.ensures.cut c.in-Some-read_character.ensures.sound,
)
