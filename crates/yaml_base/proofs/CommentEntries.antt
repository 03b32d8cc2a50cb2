-- A head between the entries of a collection adds nothing to it.
use Rattle.yaml_base.proofs.Common.{ℕ, zero, suc, Bool, false, true, true≢false, Option, List, [], ◌∷◌, ◌++◌, ◌≡◌, ◌<◌, ◌&&◌, ◌||◌, refl, ap, sym, ◌∙◌, map}
use Rattle.yaml_base.proofs.Common.{fold, option_map, subst, list_all, and_from, if◌then◌else◌, Text, Trees, TreePairs, Line, lines_of, spaces}
use Rattle.yaml_base.proofs.Common.{belongs_to_entry, LinesReader, Rules}
use Rattle.std.specs.Prelude.{unwrap_or}
use Rattle.yaml_base.proofs.CommentLines.{comment_hashed, head_line, head_lines_read, head_lines_alone, head_line_skipped}
use Rattle.yaml_base.proofs.stream_lines.StreamInside.{inside_deeper, past_spaces, AllInside}
use Rattle.yaml_base.specs.Comments.{HeadLine, blank_line, comment_line, comment_written, hash}
use Rattle.yaml_base.specs.CommentReading.{AddsBlanks, CommentsEndEntries, HeadsAddNoItem, HeadsAddNoPair, HeadsAreInside, HeadsGoOn, head_text, held_pairs}
use Rattle.yaml_base.specs.streams.StreamLines.{Entries, all_blank, begins_comment, entries_at, goes_on_after_comment, is_comment_at, item_follows}
use Rattle.yaml_base.specs.streams.StreamLines.{prepend_line, begins_with_indicator, past_column}
use Rattle.yaml_base.specs.streams.StreamNodes.{HeldPairs, between_pairs, entry_read, item_read, pair_or_comment, with_item, with_item_or_comment}

-- Lines at the column

-- a comment at a column isn't inside it
hash_outside : (q : Bool) (e : ℕ) (rest : Text) → belongs_to_entry q e (spaces e ++ (hash ∷ rest)) ≡ false
hash_outside true zero rest = refl
hash_outside false zero rest = refl
hash_outside q (suc e) rest = hash_outside q e rest

comment_outside : (q : Bool) (e : ℕ) (text : Text) → belongs_to_entry q e (spaces e ++ comment_written text) ≡ false
comment_outside q e text =
    let found = comment_hashed text in ap (λ t. belongs_to_entry q e (spaces e ++ t)) found.is ∙ hash_outside q e found.rest

-- and is found there
comment_at : (e : ℕ) (text : Text) → is_comment_at e (spaces e ++ comment_written text) ≡ true
comment_at e text =
    let found = comment_hashed text in
    ap (λ t. unwrap_or (option_map begins_comment t) false) (past_spaces e (comment_written text)) ∙ ap begins_comment found.is

-- an item follows a head if it follows the head's last line
pub item_after : (e : ℕ) (lines : List HeadLine) (others : List Line) → item_follows e (map (head_line e) lines ++ others) ≡ item_follows e others
item_after e [] others = refl
item_after e (line ∷ rest) others =
    let after = map (head_line e) rest ++ others in
    ap (λ x. if x then item_follows e after else
    unwrap_or (option_map (begins_with_indicator 0x2D) (past_column e (head_line e line).text)) false) (head_line_skipped e line)
    ∙ item_after e rest others

-- a comment is an entry's first line if no item goes on after it
pub comment_begins : (q : Bool) (e : ℕ) (text : Text) (others : List Line) → (q ≡ false → item_follows e others ≡ false)
    → (belongs_to_entry q e (spaces e ++ comment_written text) || goes_on_after_comment q e (spaces e ++ comment_written text) others) ≡ false
comment_begins true e text others alone = ap (λ b. b || false) (comment_outside true e text)
comment_begins false e text others alone =
    ap (λ b. b || (is_comment_at e (spaces e ++ comment_written text) && item_follows e others)) (comment_outside false e text)
    ∙ ap (λ b. is_comment_at e (spaces e ++ comment_written text) && b) (alone refl)
    ∙ ap (λ b. b && false) (comment_at e text)

-- Entries

-- some entries, with blank lines before them, are read as others
pub record Adds (S : Type 0) (step : S → List Line → S) (state : S) (others all : Entries) : Type 0 where
  pub blank : AddsBlanks all
  pub same : fold step state all.entries ≡ fold step state others.entries

-- an entry that is a comment and blank lines
abbrev pub StepsOver : (S : Type 0) → (step : S → List Line → S) → (state : S) → ℕ → Type 0
StepsOver S step state e = (text : Text) (ending : Text) (rest : List Line) → all_blank rest ≡ true
    → step state (record { text = spaces e ++ comment_written text; ending = ending } ∷ rest) ≡ state

-- a head's entries add nothing if such entries don't
pub head_adds : (S : Type 0) (step : S → List Line → S) (state : S) (q : Bool) (e : ℕ) (lines : List HeadLine) (others : List Line) → StepsOver S step state e
    → (entries_at q e others).before ≡ [] → (q ≡ false → item_follows e others ≡ false)
    → Adds S step state (entries_at q e others) (entries_at q e (map (head_line e) lines ++ others))
head_adds S step state q e [] others over begins alone = record { blank = ap all_blank begins; same = refl }
head_adds S step state q e (blank_line ∷ rest) others over begins alone =
    let after = head_adds S step state q e rest others over begins alone in record { blank = after.blank; same = after.same }
head_adds S step state q e (comment_line text ∷ rest) others over begins alone =
    let after = head_adds S step state q e rest others over begins alone in
    let lines = map (head_line e) rest ++ others in
    let all = entries_at q e lines in
    let cut : entries_at q e (head_line e (comment_line text) ∷ lines) ≡ prepend_line false (head_line e (comment_line text)) all =
    ap (λ b. prepend_line b (head_line e (comment_line text)) all)
    (comment_begins q e text lines (λ h. item_after e rest others ∙ alone h)) in
    subst (Adds S step state (entries_at q e others)) (sym cut)
    (record {
      blank = refl;
      same = ap (λ s. fold step s all.entries) (over text (head_line e (comment_line text)).ending all.before after.blank) ∙ after.same;
    })

-- an item's reader passes over a comment
pub items_over : (reads : LinesReader) (e : ℕ) (items : Option Trees) → StepsOver (Option Trees) (with_item_or_comment reads e) items e
items_over reads e items text ending rest blank =
    let own = spaces e ++ comment_written text in
    ap (λ b. if b && all_blank rest then items else with_item items (item_read reads e (record { text = own; ending = ending } ∷ rest))) (comment_at e text)
    ∙ ap (λ b. if b then items else with_item items (item_read reads e (record { text = own; ending = ending } ∷ rest))) blank

-- and so does a pair's, if no key waits for its value
pub pairs_over : (rules : Rules) (reads : LinesReader) (e : ℕ) (pairs : TreePairs)
    → StepsOver (Option HeldPairs) (pair_or_comment rules reads e) (held_pairs pairs) e
pairs_over rules reads e pairs text ending rest blank =
    let line : Line = record { text = spaces e ++ comment_written text; ending = ending } in
    ap (λ b. if b && all_blank rest then between_pairs (held_pairs pairs) else entry_read rules reads e (held_pairs pairs) (line ∷ rest)) (comment_at e text)
    ∙ ap (λ b. if b then between_pairs (held_pairs pairs) else entry_read rules reads e (held_pairs pairs) (line ∷ rest)) blank

-- the entries of a text after a head
entries_after : (breaks12 q : Bool) (e : ℕ) (lines : List HeadLine) (text : Text)
    → entries_at q e (lines_of breaks12 (head_text e lines ++ text)) ≡ entries_at q e (map (head_line e) lines ++ lines_of breaks12 text)
entries_after breaks12 q e lines text = ap (entries_at q e) (head_lines_read breaks12 e lines text)

pub heads_add_no_item : HeadsAddNoItem
heads_add_no_item breaks12 e lines text reads items begins =
    let step = with_item_or_comment reads e in
    let others = lines_of breaks12 text in
    let adds = subst (Adds (Option Trees) step items (entries_at true e others)) (sym (entries_after breaks12 true e lines text))
    (head_adds (Option Trees) step items true e lines others (items_over reads e items) begins (λ h. absurd (true≢false h))) in
    (adds.blank, adds.same)

pub heads_add_no_pair : HeadsAddNoPair
heads_add_no_pair breaks12 e lines text rules reads pairs begins alone =
    let step = pair_or_comment rules reads e in
    let others = lines_of breaks12 text in
    let adds = subst (Adds (Option HeldPairs) step (held_pairs pairs) (entries_at false e others)) (sym (entries_after breaks12 false e lines text))
    (head_adds (Option HeldPairs) step (held_pairs pairs) false e lines others (pairs_over rules reads e pairs) begins (λ h. alone)) in
    (adds.blank, adds.same)

pub comments_end_entries : CommentsEndEntries
comments_end_entries breaks12 q e comment lines text alone =
    let line = head_line e (comment_line comment) in
    let rest = map (head_line e) lines ++ lines_of breaks12 text in
    ap (λ (all : Entries). all.before)
    (entries_after breaks12 q e (comment_line comment ∷ lines) text
    ∙ ap (λ b. prepend_line b line (entries_at q e rest)) (comment_begins q e comment rest (λ h. item_after e lines (lines_of breaks12 text) ∙ alone h)))

-- Lines inside a column

pub going_on : (e : ℕ) (lines : List HeadLine) (others : List Line) → item_follows e others ≡ true
    → entries_at false e (map (head_line e) lines ++ others)
    ≡ record { before = map (head_line e) lines ++ (entries_at false e others).before; entries = (entries_at false e others).entries }
going_on e [] others follows = refl
going_on e (blank_line ∷ rest) others follows =
    ap (prepend_line true (head_line e blank_line)) (going_on e rest others follows)
going_on e (comment_line text ∷ rest) others follows =
    let line = head_line e (comment_line text) in
    let after = map (head_line e) rest ++ others in
    ap (λ b. prepend_line (b || goes_on_after_comment false e line.text after) line (entries_at false e after)) (comment_outside false e text)
    ∙ ap (λ b. prepend_line (b && item_follows e after) line (entries_at false e after)) (comment_at e text)
    ∙ ap (λ b. prepend_line b line (entries_at false e after)) (item_after e rest others ∙ follows)
    ∙ ap (prepend_line true line) (going_on e rest others follows)

pub heads_go_on : HeadsGoOn
heads_go_on breaks12 e lines text follows =
    let others = entries_at false e (lines_of breaks12 text) in
    entries_after breaks12 false e lines text ∙ going_on e lines (lines_of breaks12 text) follows
    ∙ ap (λ ls. record { before = ls ++ others.before; entries = others.entries }) (sym (head_lines_alone breaks12 e lines))

line_inside : (q : Bool) (d e : ℕ) (line : HeadLine) → d < e → belongs_to_entry q d (head_line e line).text ≡ true
line_inside q d e blank_line deep = refl
line_inside q d e (comment_line text) deep = inside_deeper q d e (comment_written text) deep

pub lines_inside : (q : Bool) (d e : ℕ) (lines : List HeadLine) → d < e → AllInside q d (map (head_line e) lines)
lines_inside q d e [] deep = refl
lines_inside q d e (line ∷ rest) deep =
    and_from (belongs_to_entry q d (head_line e line).text) (list_all (λ line. belongs_to_entry q d line.text) (map (head_line e) rest))
    (line_inside q d e line deep) (lines_inside q d e rest deep)

pub heads_are_inside : HeadsAreInside
heads_are_inside breaks12 q d e lines deep =
    ap (list_all (λ line. belongs_to_entry q d line.text)) (head_lines_alone breaks12 e lines) ∙ lines_inside q d e lines deep
