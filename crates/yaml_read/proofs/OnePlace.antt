-- Bytes have one place of their fault.
use Rattle.yaml_read.proofs.Common.{ℕ, ◌+◌, ◌*◌, ◌-◌, ◌<◌, ◌≤◌, suc, Bool, true, false, true≢false, Option, None, Some, List, [], ◌∷◌, ◌++◌, refl, ◌≡◌, ap}
use Rattle.yaml_read.proofs.Common.{subst, sym, ◌∙◌, ◌⊎◌, inl, inr, append-nil, arith, codes, encode, encode_utf8_all, length, line_feed, utf8, TypedValue}
use Rattle.yaml_read.proofs.Common.{most_nested, Position, document_text, value_text, append_cancel_left, IsUtf8, OpenLevel}
use Rattle.yaml_read.proofs.Common.{items_open, pairs_open, value_due, behind_value, entry_end, line_then, node, nothing, word_then, HasRead, IsOpen}
use Rattle.yaml_read.proofs.Common.{OpenCanBeRead, opened_text, BreaksInValue, BreaksOff, CannotStand, IsWordPlace, OpensPastDepth, behind_all, behind_node}
use Rattle.yaml_read.proofs.Common.{in_node, AllCanBeReadAt, CanBeRead, CanBeReadAt, PairsCanBeReadAt, column_in, IsPlacedBy, ReadError, text_bytes-utf8}
use Rattle.yaml_read.proofs.OneWays.{nothing_more, nothing_way, place_same, whole_breaks, word_way, words_same}
use Rattle.yaml_read.proofs.TextWalks.{LeadsTo, items_lead, key_leads, pairs_lead, then_leads, value_leads, words_lead}
use Rattle.yaml_read.proofs.Walks.{Halts, Spot, Walk, a_key, a_list, a_map, at_node, after_node, broken_halts, mark, next_spot, one_halt, one_walk, at_end}
use Rattle.yaml_read.proofs.Walks.{past_halts, stays, walk_on, way_at, words_at}
use Rattle.yaml_read.{specs.Places.IsBehindMarker, specs.Places.IsDepthPlace, proofs.Encoded.word_encoded, proofs.HeadsRead.word_bytes}
use Rattle.yaml_read.{proofs.Remaining.readable_root, proofs.Scalars.document_utf8, proofs.Turns.column_is, proofs.WordTexts.flat}
use Rattle.yaml_base.specs.{Positions.IsPositionOf, values.LinesAndColumns.column_of, values.LinesAndColumns.line_of}
use Rattle.std.proofs.{Common.ap₂, lemmas.Str.utf8_valid_len-IsValidUpTo}
use Rattle.yaml_value.specs.declared.keys.Keys.TheVariants as keys
use Rattle.yaml_read.specs.declared.errors.ReadError.TheVariants as told
use Rattle.yaml_read.specs.declared.heads.Kind.TheVariants as kind

-- ---- lists and maps that are open, without what they hold

abbrev pub bare : List OpenLevel → List OpenLevel
bare [] = []
bare (items_open items ∷ levels) = a_list ∷ bare levels
bare (pairs_open pairs ∷ levels) = a_map ∷ bare levels
bare (value_due pairs key ∷ levels) = a_key ∷ bare levels

pub bare_length : (levels : List OpenLevel) → length levels ≡ length (bare levels)
bare_length [] = refl
bare_length (items_open items ∷ levels) = ap (λ n. suc n) (bare_length levels)
bare_length (pairs_open pairs ∷ levels) = ap (λ n. suc n) (bare_length levels)
bare_length (value_due pairs key ∷ levels) = ap (λ n. suc n) (bare_length levels)

bare_column : (levels : List OpenLevel) → column_in levels ≡ length (bare levels) * 2
bare_column levels = column_is levels ∙ ap (λ n. n * 2) (bare_length levels)

few_bare : (levels : List OpenLevel) → length levels < most_nested → length (bare levels) < most_nested
few_bare levels room = subst (λ n. n < most_nested) (bare_length levels) room

-- ---- the text that was read

opened_leads : (levels : List OpenLevel) → OpenCanBeRead levels → LeadsTo (at_node []) (opened_text levels) (at_node (bare levels))
opened_leads [] readable = record { walk = λ rest. stays (at_node []) rest }
opened_leads (items_open items ∷ levels) readable =
    then_leads _ _ _ _ _
    (opened_leads levels readable.0) (items_lead items (bare levels) (column_in levels) (bare_column levels) (few_bare levels readable.1.0)
    (subst (λ n. AllCanBeReadAt (suc n) items) (bare_length levels) readable.1.1))
opened_leads (pairs_open pairs ∷ levels) readable =
    then_leads _ _ _ _ _
    (opened_leads levels readable.0) (pairs_lead pairs (bare levels) (column_in levels) (bare_column levels) (few_bare levels readable.1.0)
    (subst (λ n. PairsCanBeReadAt (suc n) pairs) (bare_length levels) readable.1.1))
opened_leads (value_due pairs key ∷ levels) readable =
    let column = column_in levels in
    let same = bare_column levels in
    then_leads _ _ _ _ _ (opened_leads levels readable.0) (key_leads _ _ same _ _ (pairs_lead pairs (bare levels) column same (few_bare levels readable.1.0)
    (subst (λ n. PairsCanBeReadAt (suc n) pairs) (bare_length levels) readable.1.1.0))
    (value_leads key (a_map ∷ bare levels) (column + 2) (omega (arith, same)) (subst (λ n. CanBeReadAt (suc n) key) (bare_length levels) readable.1.1.1)))

pub opened_walk : (whole bytes : List ℕ) (levels : List OpenLevel) → IsOpen whole levels bytes → Walk (at_node []) whole (at_node (bare levels)) bytes
opened_walk whole bytes levels opened =
    subst (λ (t : List ℕ). Walk (at_node []) t (at_node (bare levels)) bytes) (sym opened.text) ((opened_leads levels opened.readable).walk bytes)

read_walk : (whole bytes : List ℕ) (levels : List OpenLevel) (value : TypedValue) → HasRead whole levels value bytes
    → Walk (at_node []) whole (after_node (bare levels)) bytes
read_walk whole bytes levels value read =
    subst (λ (t : List ℕ). Walk (at_node []) t (after_node (bare levels)) bytes) (sym read.text) ((then_leads _ _ _ _ _ (opened_leads levels read.outer)
    (value_leads value (bare levels) (column_in levels) (bare_column levels) (subst (λ n. CanBeReadAt n value) (bare_length levels) read.readable))).walk bytes)

-- ---- why no way leads on

-- so far before the end of these bytes a word is missing, or more follows the text, or a list or a map opens too deep
data Stops : Spot → List ℕ → (deep : Bool) → ℕ → Type 0 where
  breaks : (spot : Spot) (bytes : List ℕ) (left : ℕ) → BreaksOff (words_at spot) bytes left → Stops spot bytes false left
  follows : (bytes : List ℕ) → 0 < length bytes → Stops at_end bytes false (length bytes)
  too_deep : (levels : List OpenLevel) (bytes : List ℕ) (words : List (List ℕ)) (inside : List ℕ) → node (length levels) words
      → next_spot (at_node levels) (mark words) ≡ None → bytes ≡ flat words ++ inside → Stops (at_node levels) bytes true (length bytes)

none_some : (a : Spot) → ◌≡◌ {A = Option Spot} None (Some a) → ⊥
none_some a is = cc

stops_halt : (spot : Spot) (bytes : List ℕ) (deep : Bool) (left : ℕ) → Stops spot bytes deep left → Halts spot bytes
stops_halt _ _ _ _ (breaks spot bytes left breaks_off) = broken_halts spot bytes left breaks_off
stops_halt _ _ _ _ (follows bytes some) = past_halts bytes
stops_halt _ _ _ _ (too_deep levels bytes words inside are none is) =
    record {
      none = λ next rest others also to starts.
          let same = words_same (words_at (at_node levels)) words others inside rest (way_at (at_node levels)) are also (sym is ∙ starts) in
          none_some next (sym none ∙ ap (λ ws. next_spot (at_node levels) (mark ws)) same ∙ to);
    }

nothing_breaks : (bytes : List ℕ) (left : ℕ) → BreaksOff nothing bytes left → ⊥
nothing_breaks bytes left breaks_off = nothing_more breaks_off.read breaks_off.due breaks_off.more breaks_off.begins

stops_once : (spot : Spot) (bytes : List ℕ) (deep dark : Bool) (left other : ℕ) → Stops spot bytes deep left → Stops spot bytes dark other
    → (deep ≡ dark) × (left ≡ other)
stops_once _ _ _ _ _ _ (breaks spot bytes left first) (breaks _ _ other second) = (refl, place_same (words_at spot) bytes left other (way_at spot) first second)
stops_once _ _ _ _ _ _ (breaks _ bytes left first) (follows _ some) = absurd (nothing_breaks bytes left first)
stops_once _ _ _ _ _ _ (breaks _ bytes left first) (too_deep levels _ words inside are none is) =
    absurd (whole_breaks (words_at (at_node levels)) bytes left words inside (way_at (at_node levels)) first are is)
stops_once _ _ _ _ _ _ (follows bytes some) (breaks _ _ other second) = absurd (nothing_breaks bytes other second)
stops_once _ _ _ _ _ _ (too_deep levels bytes words inside are none is) (breaks _ _ other second) =
    absurd (whole_breaks (words_at (at_node levels)) bytes other words inside (way_at (at_node levels)) second are is)
stops_once _ _ _ _ _ _ _ _ = (refl, refl)

-- the place to which a reader comes
record Found (whole : List ℕ) (deep : Bool) (left : ℕ) : Type 0 where
  pub spot : Spot
  pub bytes : List ℕ
  pub walk : Walk (at_node []) whole spot bytes
  pub stops : Stops spot bytes deep left

found_once : (whole : List ℕ) (deep dark : Bool) (left other : ℕ) → Found whole deep left → Found whole dark other → (deep ≡ dark) × (left ≡ other)
found_once whole deep dark left other one two =
    let same = one_halt _ _ _ _ _ _ one.walk two.walk (stops_halt _ _ deep left one.stops) (stops_halt _ _ dark other two.stops) in
    stops_once one.spot one.bytes deep dark left other one.stops (subst (λ (s : Spot). Stops s one.bytes dark other) (sym same.spot)
    (subst (λ (b : List ℕ). Stops two.spot b dark other) (sym same.bytes) two.stops))

pub behind_bare : (Holds : (List (List ℕ) → Type 0) → Type 0) (levels : List OpenLevel) → Holds (behind_value levels) → Holds (behind_value (bare levels))
behind_bare Holds [] holds = holds
behind_bare Holds (items_open items ∷ levels) holds = subst (λ n. Holds (entry_end n (codes "  ") (codes "]"))) (bare_length levels) holds
behind_bare Holds (value_due pairs key ∷ levels) holds = subst (λ n. Holds (entry_end n (codes "  ? ") (codes "}"))) (bare_length levels) holds
behind_bare Holds (pairs_open pairs ∷ levels) holds = subst (λ n. Holds (line_then n (word_then (codes "  : ") nothing))) (bare_length levels) holds

breaks_found : (whole : List ℕ) (left : ℕ) → BreaksInValue keys.MayRepeat whole left → Found whole false left
breaks_found whole left (in_node levels bytes opened allowed breaks_off) =
    record {
      spot = at_node (bare levels);
      bytes = bytes;
      walk = opened_walk whole bytes levels opened;
      stops = breaks (at_node (bare levels)) bytes left (subst (λ n. BreaksOff (node n) bytes left) (bare_length levels) breaks_off);
    }
breaks_found whole left (behind_node levels value bytes read levels_allowed value_allowed breaks_off) =
    record {
      spot = after_node (bare levels);
      bytes = bytes;
      walk = read_walk whole bytes levels value read;
      stops = breaks (after_node (bare levels)) bytes left (behind_bare (λ These. BreaksOff These bytes left) levels breaks_off);
    }
breaks_found whole left (behind_all value bytes rest read allowed is some place) =
    record {
      spot = at_end;
      bytes = rest;
      walk = walk_on (at_node []) (after_node []) at_end whole bytes rest (read_walk whole bytes [] value read)
          (one_walk (after_node []) at_end bytes rest (codes "\n" ∷ []) (refl, tt) refl is);
      stops = subst (λ n. Stops at_end rest false n) (sym place) (follows rest some);
    }

deep_by : (levels : List OpenLevel) (bytes inside : List ℕ) → most_nested ≤ length levels
    → (bytes ≡ codes "!!seq [" ++ inside) ⊎ (bytes ≡ codes "!!map {" ++ inside) → Stops (at_node levels) bytes true (length bytes)
deep_by levels bytes inside many (inl is) = too_deep levels bytes (codes "!!seq " ∷ codes "[" ∷ []) inside (kind.List, (refl, (refl, inr (many, tt)))) refl is
deep_by levels bytes inside many (inr is) = too_deep levels bytes (codes "!!map " ∷ codes "{" ∷ []) inside (kind.Map, (refl, (refl, inr (many, tt)))) refl is

deep_found : (whole : List ℕ) (left : ℕ) → OpensPastDepth keys.MayRepeat whole left → Found whole true left
deep_found whole left deep =
    record {
      spot = at_node (bare deep.levels);
      bytes = deep.bytes;
      walk = opened_walk whole deep.bytes deep.levels deep.opened;
      stops =
          subst (λ n. Stops (at_node (bare deep.levels)) deep.bytes true n) (sym deep.place)
          (deep_by (bare deep.levels) deep.bytes deep.inside (omega (arith, deep.full, bare_length deep.levels)) deep.begins);
    }

-- ---- bytes

marker_is : (bytes whole : List ℕ) (left : ℕ) → BreaksOff (word_then (codes "---\n") nothing) bytes left → bytes ≡ codes "---\n" ++ whole → ⊥
marker_is bytes whole left breaks_off is = whole_breaks _ _ _ (codes "---\n" ∷ []) whole (word_way (codes "---\n") _ nothing_way) breaks_off (refl, tt) is

-- what follows a document's first line
behind_marker : (bytes : List ℕ) (Holds Held : List ℕ → Type 0) → IsBehindMarker bytes Holds → IsBehindMarker bytes Held
    → (whole : List ℕ) × (Holds whole) × (Held whole)
behind_marker bytes Holds Held one other = (one.0, one.2, subst Held (append_cancel_left (codes "---\n") other.0 one.0 (sym other.1 ∙ one.1)) other.2)

stands_once : (bytes : List ℕ) (left other : ℕ) → CannotStand keys.MayRepeat bytes left → CannotStand keys.MayRepeat bytes other → left ≡ other
stands_once bytes left other (inl first) (inl second) = place_same _ _ _ _ (word_way (codes "---\n") _ nothing_way) first second
stands_once bytes left other (inl first) (inr second) = absurd (marker_is _ second.0 _ first second.1)
stands_once bytes left other (inr first) (inl second) = absurd (marker_is _ first.0 _ second first.1)
stands_once bytes left other (inr first) (inr second) =
    let both = behind_marker bytes (λ whole. BreaksInValue keys.MayRepeat whole left) (λ whole. BreaksInValue keys.MayRepeat whole other) first second in
    (found_once _ _ _ _ _ (breaks_found _ _ both.1) (breaks_found _ _ both.2)).1

deep_once : (bytes : List ℕ) (left other : ℕ) → IsBehindMarker bytes (λ whole. OpensPastDepth keys.MayRepeat whole left)
    → IsBehindMarker bytes (λ whole. OpensPastDepth keys.MayRepeat whole other) → left ≡ other
deep_once bytes left other first second =
    let both = behind_marker bytes (λ whole. OpensPastDepth keys.MayRepeat whole left) (λ whole. OpensPastDepth keys.MayRepeat whole other) first second in
    (found_once both.0 true true left other (deep_found both.0 left both.1) (deep_found both.0 other both.2)).1

not_both : (bytes : List ℕ) (left other : ℕ) → CannotStand keys.MayRepeat bytes left → IsBehindMarker bytes (λ whole. OpensPastDepth keys.MayRepeat whole other) → ⊥
not_both bytes left other (inl first) second = marker_is bytes second.0 left first second.1
not_both bytes left other (inr first) second =
    let both = behind_marker bytes (λ whole. BreaksInValue keys.MayRepeat whole left) (λ whole. OpensPastDepth keys.MayRepeat whole other) first second in
    true≢false (sym (found_once both.0 false true left other (breaks_found both.0 left both.1) (deep_found both.0 other both.2)).0)

-- ---- errors

-- an offset has one position
position_once : (bytes : List ℕ) (one other : ℕ) (first second : Position) → one ≡ other → IsPositionOf bytes one first → IsPositionOf bytes other second
    → first ≡ second
position_once bytes one other first second same is are =
    ap₂ at (is.line ∙ ap (line_of bytes) same ∙ sym are.line) (is.column ∙ ap (column_of bytes) same ∙ sym are.column)
  where
    at : ℕ → ℕ → Position
    at line column = record { line = line; column = column }

word_once : (bytes : List ℕ) (first second : Position) → IsWordPlace keys.MayRepeat bytes first → IsWordPlace keys.MayRepeat bytes second → first ≡ second
word_once bytes first second (inl one) (inl other) =
    position_once _ _ _ _ _
    (sym (utf8_valid_len-IsValidUpTo bytes one.at one.valid) ∙ utf8_valid_len-IsValidUpTo bytes other.at other.valid) one.position_is other.position_is
word_once bytes first second (inl one) (inr other) = absurd (one.not_utf8 other.utf8)
word_once bytes first second (inr one) (inl other) = absurd (other.not_utf8 one.utf8)
word_once bytes first second (inr one) (inr other) =
    position_once _ _ _ _ _ (ap (λ n. length bytes - n) (stands_once bytes one.left other.left one.holds other.holds)) one.position_is other.position_is

-- no word is impossible where a list or a map lies too deep
no_word : (bytes : List ℕ) (first second : Position) → IsWordPlace keys.MayRepeat bytes first → IsDepthPlace keys.MayRepeat bytes second → ⊥
no_word bytes first second (inl one) deep = one.not_utf8 deep.utf8
no_word bytes first second (inr one) deep = not_both bytes one.left deep.left one.holds deep.holds

-- bytes have one fault, at one position
pub one_place : (bytes : List ℕ) (one other : ReadError) → IsPlacedBy keys.MayRepeat bytes one → IsPlacedBy keys.MayRepeat bytes other
    → (one ≡ told.Memory) ⊎ ((other ≡ told.Memory) ⊎ (one ≡ other))
one_place bytes told.Memory other first second = inl refl
one_place bytes told.NotNumbered other first second = absurd first
one_place bytes (told.DuplicateKey position) other first second = let never = first.0 in cc
one_place bytes one told.Memory first second = inr (inl refl)
one_place bytes one told.NotNumbered first second = absurd second
one_place bytes one (told.DuplicateKey position) first second = let never = second.0 in cc
one_place bytes (told.NotCanonical one) (told.NotCanonical other) first second =
    inr (inr (ap (λ p. told.NotCanonical p) (word_once bytes one other first second)))
one_place bytes (told.NotCanonical one) (told.TooDeep other) first second = absurd (no_word bytes one other first second)
one_place bytes (told.TooDeep one) (told.NotCanonical other) first second = absurd (no_word bytes other one second first)
one_place bytes (told.TooDeep one) (told.TooDeep other) first second =
    inr (inr (ap (λ p. told.TooDeep p)
    (position_once bytes _ _ one other (ap (λ n. length bytes - n) (deep_once bytes first.left second.left first.holds second.holds)) first.position_is
    second.position_is)))

-- ---- the bytes of a value

-- a reader comes to their end
pub value_walk : (value : TypedValue) → CanBeReadAt 0 value
    → Walk (at_node []) (encode_utf8_all (value_text 0 value ++ line_feed ∷ []) ++ []) at_end []
value_walk value readable =
    (then_leads (at_node []) (after_node []) at_end (value_text 0 value) (line_feed ∷ []) (value_leads value [] 0 refl readable)
    (words_lead (after_node []) at_end (line_feed ∷ []) (codes "\n" ∷ []) (refl, tt) refl (word_bytes (codes "\n") refl))).walk []

ends_right : (deep : Bool) (bytes : List ℕ) (left : ℕ) → bytes ≡ [] → Stops at_end bytes deep left → ⊥
ends_right _ _ _ is (breaks _ bytes left breaks_off) = nothing_breaks bytes left breaks_off
ends_right _ _ _ is (follows bytes some) = absurd (omega (arith, some, ap length is))

not_found : (value : TypedValue) (whole : List ℕ) (deep : Bool) (left : ℕ) → CanBeReadAt 0 value
    → whole ≡ encode_utf8_all (value_text 0 value ++ line_feed ∷ []) → Found whole deep left → ⊥
not_found value whole deep left readable is found =
    let walk = subst (λ (t : List ℕ). Walk (at_node []) t at_end []) (append-nil (encode_utf8_all (value_text 0 value ++ line_feed ∷ [])) ∙ sym is)
    (value_walk value readable) in
    let same = one_halt _ _ _ _ _ _ found.walk walk (stops_halt found.spot found.bytes deep left found.stops) (past_halts []) in
    ends_right deep _ left same.bytes (subst (λ (s : Spot). Stops s found.bytes deep left) same.spot found.stops)

stands_not : (value : TypedValue) (bytes : List ℕ) (left : ℕ) → CanBeReadAt 0 value
    → bytes ≡ codes "---\n" ++ encode_utf8_all (value_text 0 value ++ line_feed ∷ []) → CannotStand keys.MayRepeat bytes left → ⊥
stands_not value bytes left readable is (inl first) = marker_is _ (encode_utf8_all (value_text 0 value ++ line_feed ∷ [])) _ first is
stands_not value bytes left readable is (inr first) =
    not_found value _ _ _ readable (append_cancel_left (codes "---\n") first.0 (encode_utf8_all (value_text 0 value ++ line_feed ∷ [])) (sym first.1 ∙ is))
    (breaks_found _ _ first.2)

-- they have no place of a fault
nowhere : (value : TypedValue) (bytes : List ℕ) (error : ReadError) → CanBeReadAt 0 value → IsUtf8 bytes
    → bytes ≡ codes "---\n" ++ encode_utf8_all (value_text 0 value ++ line_feed ∷ []) → IsPlacedBy keys.MayRepeat bytes error → error ≡ told.Memory
nowhere value bytes told.Memory readable valid is placed = refl
nowhere value bytes told.NotNumbered readable valid is placed = absurd placed
nowhere value bytes (told.DuplicateKey position) readable valid is placed = let never = placed.0 in cc
nowhere value bytes (told.NotCanonical position) readable valid is (inl ends) = absurd (ends.not_utf8 valid)
nowhere value bytes (told.NotCanonical position) readable valid is (inr place) = absurd (stands_not value _ place.left readable is place.holds)
nowhere value bytes (told.TooDeep position) readable valid is placed =
    let deep = placed.holds in
    absurd (not_found value _ _ _ readable
    (append_cancel_left (codes "---\n") deep.0 (encode_utf8_all (value_text 0 value ++ line_feed ∷ [])) (sym deep.1 ∙ is)) (deep_found _ _ deep.2))

pub no_place : (value : TypedValue) (error : ReadError) → CanBeRead value
    → IsPlacedBy keys.MayRepeat (encode (Some utf8) (document_text value)) error → error ≡ told.Memory
no_place value error readable placed =
    let text = document_text value in
    nowhere value (encode (Some utf8) text) error (readable_root value readable) (subst IsUtf8 (sym (text_bytes-utf8 text)) (document_utf8 value readable))
    (text_bytes-utf8 text ∙ word_encoded (codes "---\n") (value_text 0 value ++ line_feed ∷ []) refl) placed
