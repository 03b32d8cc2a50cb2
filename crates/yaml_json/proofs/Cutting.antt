-- The end of a text of several.
use Rattle.yaml_json.proofs.Common.{suc, zero, ℕ, ◌+◌, ◌<◌, ◌≤◌, Option, None, Some, drop, length, take, List, [], ◌++◌, ◌∷◌, refl, ◌≡◌, length-append}
use Rattle.yaml_json.proofs.Common.{length-drop, take-append-drop, length-take-le, take_all, append-nil, append_assoc, inl, inr, ap, subst, sym, ◌∙◌, arith}
use Rattle.yaml_json.proofs.Common.{HasScanned, CutsAt, after_byte, texts_in, CutsFirstText, IsCharBoundary, Cut, Scan}
use Rattle.yaml_json.{proofs.Common.slice_index_or as get_or, specs.Cuts.all_onto, specs.Cuts.Scanned, specs.declared.cuts.Mode.Mode}
use Rattle.yaml_json.specs.Texts.{scan_first_byte, scan_within, scan_in_string, onto_first, cut_text_before, texts_after}
use Rattle.yaml_json.specs.declared.cuts.Mode.TheVariants.{Before, Behind, InString, InWord, Within}
use Rattle.std.proofs.{Common.drop-cons, lemmas.List.take-append-le, lemmas.List.take_more}

onto_one_more : (bytes : List ℕ) (byte : ℕ) (texts : List (List ℕ)) → all_onto (bytes ++ byte ∷ []) texts ≡ all_onto bytes (onto_first byte texts)
onto_one_more [] byte texts = refl
onto_one_more (first ∷ bytes) byte texts = ap (onto_first first) (onto_one_more bytes byte texts)

onto_text : (bytes text : List ℕ) (texts : List (List ℕ)) → all_onto bytes (text ∷ texts) ≡ (bytes ++ text) ∷ texts
onto_text [] text texts = refl
onto_text (first ∷ bytes) text texts = ap (onto_first first) (onto_text bytes text texts)

step_few : (mode : Mode) (levels byte : ℕ) (next : Scan) → after_byte (record { mode = mode; levels = levels }) byte ≡ Some next → next.levels ≤ suc levels
step_few Before levels byte next is = grind arith
step_few _ levels byte next is = grind arith

module _ (done : List ℕ) (scan : Scan) (byte : ℕ) (scanned : Scanned done scan) where
  by_next : (found : Option Scan) → after_byte scan byte ≡ found → (more : List ℕ)
      → texts_in (done ++ byte ∷ more) ≡ all_onto done (cut_text_before byte found (λ next. texts_after next more))
  by_next found is more =
      scanned.texts (byte ∷ more) ∙ ap (λ (found : Option Scan). all_onto done (cut_text_before byte found (λ next. texts_after next more))) is

  -- the byte goes on with the text
  pub scan_goes_on : (next : Scan) → after_byte scan byte ≡ Some next → Scanned (done ++ byte ∷ []) next
  scan_goes_on next is =
      let few = scanned.few in
      let more = step_few scan.mode scan.levels byte next is in
      record {
        texts = λ more. ap texts_in (append_assoc done (byte ∷ []) more) ∙ by_next (Some next) is more ∙ sym (onto_one_more done byte (texts_after next more));
        few = omega (arith, few, more, length-append done (byte ∷ []));
        fresh = λ none. let never : ⊥ = omega (arith, none, length-append done (byte ∷ [])) in absurd never;
      }

  -- or begins the next, which isn't so before any
  pub scan_cuts : after_byte scan byte ≡ None → (more : List ℕ) → texts_in (done ++ byte ∷ more) ≡ done ∷ texts_in (byte ∷ more)
  scan_cuts is more =
      by_next None is more ∙ onto_text done [] (texts_in (byte ∷ more)) ∙ ap (λ (first : List ℕ). first ∷ texts_in (byte ∷ more)) (append-nil done)

  pub scanned_some : after_byte scan byte ≡ None → 0 < length done
  scanned_some is = later (length done) refl where
    later : (n : ℕ) → length done ≡ n → 0 < length done
    later zero none =
        let some : Some (scan_first_byte byte) ≡ None =
        sym (ap (λ (mode : Mode). after_byte (record { mode = mode; levels = scan.levels }) byte) (scanned.fresh none)) ∙ is in
        let never : ⊥ = cc in absurd never
    later (suc n) some = omega (arith, some)

pub scan_ends : (done : List ℕ) (scan : Scan) → Scanned done scan → texts_in done ≡ done ∷ []
scan_ends done scan scanned =
    ap texts_in (sym (append-nil done)) ∙ scanned.texts [] ∙ onto_text done [] [] ∙ ap (λ (first : List ℕ). first ∷ []) (append-nil done)

-- no character goes on with a byte that begins a text
cut_outer : (mode : Mode) (levels byte : ℕ) → after_byte (record { mode = mode; levels = levels }) byte ≡ None → 128 ≤ byte → 192 ≤ byte
cut_outer InWord levels byte is high = grind arith
cut_outer Behind levels byte is high = grind arith
cut_outer _ levels byte is high = cc

-- an array or an object goes on as before, and a string
pub within_stays : (scan : Scan) (byte : ℕ) → scan.mode ≡ Within → scan_within scan.levels byte ≡ record { mode = Within; levels = scan.levels }
    → after_byte scan byte ≡ Some scan
within_stays scan byte is stays =
    ap (λ (mode : Mode). after_byte (record { mode = mode; levels = scan.levels }) byte) is ∙ ap (λ (next : Scan). Some next) stays
    ∙ ap (λ (mode : Mode). Some (record { mode = mode; levels = scan.levels })) (sym is)

pub string_stays : (scan : Scan) (byte : ℕ) → scan.mode ≡ InString → (byte ≡ 34 → ⊥) → (byte ≡ 92 → ⊥) → after_byte scan byte ≡ Some scan
string_stays scan byte is no_quote no_backslash =
    let stays : scan_in_string scan.levels byte ≡ record { mode = InString; levels = scan.levels } = grind arith in
    ap (λ (mode : Mode). after_byte (record { mode = mode; levels = scan.levels }) byte) is ∙ ap (λ (next : Scan). Some next) stays
    ∙ ap (λ (mode : Mode). Some (record { mode = mode; levels = scan.levels })) (sym is)

-- ---- by index

-- more may follow
pub still_scanned : (text more : List ℕ) (cut : Cut) → HasScanned text cut → HasScanned (text ++ more) cut
still_scanned text more cut has =
    let within = has.within in
    record {
      within = omega (arith, within, length-append text more);
      scanned = subst (λ (done : List ℕ). Scanned done cut.scan) (sym (take-append-le cut.scanned text more within)) has.scanned;
    }

module _ (text : List ℕ) (cut : Cut) (has : HasScanned text cut) (less : cut.scanned < length text) where
  byte_next : drop cut.scanned text ≡ get_or text cut.scanned 0 ∷ drop (cut.scanned + 1) text
  byte_next =
      let one : suc cut.scanned ≡ cut.scanned + 1 = omega arith in
      drop-cons text cut.scanned 0 less ∙ ap (λ n. get_or text cut.scanned 0 ∷ drop n text) one

  pub one_scanned : (next : Scan) → after_byte cut.scan (get_or text cut.scanned 0) ≡ Some next
      → HasScanned text (record { scan = next; scanned = cut.scanned + 1 })
  one_scanned next is =
      record {
        within = omega (arith, less);
        scanned = subst (λ (done : List ℕ). Scanned done next) (sym (take_more text cut.scanned 0 less))
            (scan_goes_on (take cut.scanned text) cut.scan (get_or text cut.scanned 0) has.scanned next is);
      }

  module _ (is : after_byte cut.scan (get_or text cut.scanned 0) ≡ None) where
    cut_here : (more : List ℕ) → texts_in (text ++ more) ≡ take cut.scanned text ∷ texts_in (drop cut.scanned text ++ more)
    cut_here more =
        ap (λ (t : List ℕ). texts_in (t ++ more)) (sym (take-append-drop cut.scanned text))
        ∙ ap texts_in (append_assoc (take cut.scanned text) (drop cut.scanned text) more)
        ∙ ap (λ (t : List ℕ). texts_in (take cut.scanned text ++ (t ++ more))) byte_next
        ∙ scan_cuts (take cut.scanned text) cut.scan (get_or text cut.scanned 0) has.scanned is (drop (cut.scanned + 1) text ++ more)
        ∙ ap (λ (t : List ℕ). take cut.scanned text ∷ texts_in (t ++ more)) (sym byte_next)

    pub one_cut : CutsAt text cut.scanned
    one_cut =
        let some = scanned_some (take cut.scanned text) cut.scan (get_or text cut.scanned 0) has.scanned is in
        let within = has.within in
        record {
          some = omega (arith, some, length-take-le cut.scanned text within);
          within = less;
          cut = cut_here;
          outer = cut_outer cut.scan.mode cut.scan.levels (get_or text cut.scanned 0) is;
        }

-- the first text ends before a character
pub may_cut : (text : List ℕ) (end : ℕ) → CutsAt text end → IsCharBoundary text end
may_cut text end cuts = (let within = cuts.within in omega (arith, within), λ less inner. cuts.outer inner)

-- the first of some texts, and the others
pub cuts_first : (text : List ℕ) (end : ℕ) → CutsAt text end → CutsFirstText text (take end text) (drop end text)
cuts_first text end cuts =
    let some = cuts.some in
    let within = cuts.within in
    let shorter : length (drop end text) + end ≡ length text = omega (arith, within, length-drop end text) in (
      take-append-drop end text,
      inr (
        (λ none. let never : ⊥ = omega (arith, within, shorter, ap length none) in absurd never),
        omega (arith, some, shorter),
        ap texts_in (sym (append-nil text)) ∙ cuts.cut [] ∙ ap (λ (t : List ℕ). take end text ∷ texts_in t) (append-nil (drop end text)),
      ),
    )

pub whole_text : (text : List ℕ) (cut : Cut) → HasScanned text cut → cut.scanned ≡ length text → texts_in text ≡ text ∷ []
whole_text text cut has all =
    let done : take cut.scanned text ≡ text = take_all cut.scanned text (omega (arith, all)) in
    scan_ends text cut.scan (subst (λ (t : List ℕ). Scanned t cut.scan) done has.scanned)

pub whole_first : (text : List ℕ) (cut : Cut) → HasScanned text cut → cut.scanned ≡ length text → CutsFirstText text text []
whole_first text cut has all = (append-nil text, inl (refl, whole_text text cut has all))
