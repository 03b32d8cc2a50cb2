-- Files that are sent one after another.
use Rattle.std.proofs.Common.{ℕ, Option, List, [], ◌∷◌, ◌++◌, map, ◌≡◌, refl, ap, subst, sym, ◌∙◌, append-nil, append_assoc, Some, codes}
use Rattle.std.proofs.Common.{Bor, ◌+◌, ◌<◌, arith, length, take, slice_index_or as get_or}
use Rattle.std.proofs.lemmas.List.{map_push, take_more}
use Rattle.yaml_writer.specs.Writing.{WriterState}
use Rattle.yaml_program.specs.Conversions.{AreBytesOf, names_read}
use Rattle.yaml_program.specs.Streams.{BeganDocument, Sending, SentBehind, SentFiles}

-- The last of some files.
cut_last : (bytes_of : List ℕ → Option (List ℕ)) (names : List (List ℕ)) (name : List ℕ) (files : List (List ℕ))
    → AreBytesOf bytes_of (names ++ name ∷ []) files
    → (front : List (List ℕ)) × (last : List ℕ) × (files ≡ front ++ last ∷ []) × AreBytesOf bytes_of names front × (bytes_of name ≡ Some last)
cut_last bytes_of [] name [] are = absurd are
cut_last bytes_of [] name (file ∷ []) are = ([], file, refl, tt, are.0)
cut_last bytes_of [] name (file ∷ next ∷ files) are = absurd are.1
cut_last bytes_of (one ∷ names) name [] are = absurd are
cut_last bytes_of (one ∷ names) name (file ∷ files) are =
    let (front, last, is, others, known) = cut_last bytes_of names name files are.1 in
    (file ∷ front, last, ap (λ (all : List (List ℕ)). file ∷ all) is, (are.0, others), known)

module _ (sent : Sending) (bytes_of : List ℕ → Option (List ℕ)) where
  pub behind_none : (writer : WriterState) (held : Option (List ℕ)) (files : List (List ℕ)) → AreBytesOf bytes_of [] files
      → SentBehind sent files writer held writer held
  behind_none writer held [] are = (refl, refl)
  behind_none writer held (file ∷ files) are = absurd are

  -- One more file.
  behind_more : (files : List (List ℕ)) (file : List ℕ) (was middle begun now : WriterState) (before held holds after : Option (List ℕ))
      → SentBehind sent files was before middle held → BeganDocument middle held begun holds → sent file begun holds now after
      → SentBehind sent (files ++ file ∷ []) was before now after
  behind_more [] file was middle begun now before held holds after (is, same) begins one = (
    begun,
    holds,
    now,
    after,
    subst (λ (w : WriterState). BeganDocument w before begun holds) is (subst (λ (h : Option (List ℕ)). BeganDocument middle h begun holds) same begins),
    one,
    (refl, refl),
  )
  behind_more (first ∷ files) file was middle begun now before held holds after (start, has, then, had, starts, sends, rest) begins one = (
    start,
    has,
    then,
    had,
    starts,
    sends,
    behind_more files file then middle begun now had held holds after rest begins one,
  )

  -- The next name of a list.
  pub next_behind : (names : List (Bor (List ℕ))) (index : ℕ) (name : Bor (List ℕ)) (was middle begun now : WriterState)
      (before held holds after : Option (List ℕ)) → index < length names
      → ((files : List (List ℕ)) → AreBytesOf bytes_of (map (λ n. n.now) (take index names)) files → SentBehind sent files was before middle held)
      → BeganDocument middle held begun holds
      → ((file : List ℕ) → bytes_of (get_or names index name).now ≡ Some file → sent file begun holds now after)
      → (files : List (List ℕ)) → AreBytesOf bytes_of (map (λ n. n.now) (take (index + 1) names)) files → SentBehind sent files was before now after
  next_behind names index name was middle begun now before held holds after within behind begins one files are =
      let taken : map (λ n. n.now) (take (index + 1) names) ≡ map (λ n. n.now) (take index names) ++ (get_or names index name).now ∷ [] =
      ap (map (λ (n : Bor (List ℕ)). n.now)) (take_more names index name within)
      ∙ map_push (λ (n : Bor (List ℕ)). n.now) (take index names) (get_or names index name) in
      let (front, last, is, others, known) = cut_last bytes_of (map (λ n. n.now) (take index names)) (get_or names index name).now files
      (subst (λ (all : List (List ℕ)). AreBytesOf bytes_of all files) taken are) in
      subst (λ (all : List (List ℕ)). SentBehind sent all was before now after) (sym is)
      (behind_more front last was middle begun now before held holds after (behind front others) begins (one last known))

  -- Standard input.
  pub stream_sent : (names : List (Bor (List ℕ))) (was now : WriterState) (before after : Option (List ℕ)) → length names ≡ 0
      → ((file : List ℕ) → bytes_of (codes "-") ≡ Some file → sent file was before now after)
      → (files : List (List ℕ)) → AreBytesOf bytes_of (names_read (map (λ n. n.now) names)) files → SentFiles sent files was before now after
  stream_sent [] was now before after none one [] are = absurd are
  stream_sent [] was now before after none one (file ∷ []) are = (now, after, one file are.0, (refl, refl))
  stream_sent [] was now before after none one (file ∷ next ∷ files) are = absurd are.1
  stream_sent (name ∷ names) was now before after none one files are = absurd (omega arith)

  -- The files that are named.
  named_from : (name : List ℕ) (others : List (List ℕ)) (was middle now : WriterState) (before held after : Option (List ℕ))
      → ((file : List ℕ) → bytes_of name ≡ Some file → sent file was before middle held)
      → ((files : List (List ℕ)) → AreBytesOf bytes_of others files → SentBehind sent files middle held now after)
      → (files : List (List ℕ)) → AreBytesOf bytes_of (names_read (name ∷ others)) files → SentFiles sent files was before now after
  named_from name others was middle now before held after one behind [] are = absurd are
  named_from name others was middle now before held after one behind (file ∷ files) are = (middle, held, one file are.0, behind files are.1)

  pub named_sent : (names : List (Bor (List ℕ))) (name : Bor (List ℕ)) (others : List (Bor (List ℕ))) (was middle now : WriterState)
      (before held after : Option (List ℕ)) → names ≡ name ∷ others
      → ((file : List ℕ) → bytes_of name.now ≡ Some file → sent file was before middle held)
      → ((files : List (List ℕ)) → AreBytesOf bytes_of (map (λ n. n.now) others) files → SentBehind sent files middle held now after)
      → (files : List (List ℕ)) → AreBytesOf bytes_of (names_read (map (λ n. n.now) names)) files → SentFiles sent files was before now after
  named_sent names name others was middle now before held after is one behind files are =
      named_from name.now (map (λ n. n.now) others) was middle now before held after one behind files
      (subst (λ (all : List (Bor (List ℕ))). AreBytesOf bytes_of (names_read (map (λ n. n.now) all)) files) is are)

-- A predicate that holds of one file, and is kept by each file that is sent after others, holds of all files.
module _ (sent : Sending)
    (P : List (List ℕ) → WriterState → Option (List ℕ) → Type 0)
    (next : (files : List (List ℕ)) (file : List ℕ) (middle begun now : WriterState) (held holds after : Option (List ℕ)) → P files middle held
    → BeganDocument middle held begun holds → sent file begun holds now after → P (files ++ file ∷ []) now after) where
  each_behind : (files more : List (List ℕ)) (middle now : WriterState) (held after : Option (List ℕ)) → P files middle held
      → SentBehind sent more middle held now after → P (files ++ more) now after
  each_behind files [] middle now held after first (is, same) =
      subst (λ (all : List (List ℕ)). P all now after) (sym (append-nil files))
      (subst (λ (w : WriterState). P files w after) (sym is) (subst (λ (h : Option (List ℕ)). P files middle h) (sym same) first))
  each_behind files (file ∷ more) middle now held after first (start, has, then, had, begins, one, rest) =
      subst (λ (all : List (List ℕ)). P all now after) (append_assoc files (file ∷ []) more)
      (each_behind (files ++ file ∷ []) more then now had after (next files file middle start then held has had first begins one) rest)

  pub each_sent : (files : List (List ℕ)) (was now : WriterState) (before after : Option (List ℕ))
      → ((file : List ℕ) (now : WriterState) (after : Option (List ℕ)) → sent file was before now after → P (file ∷ []) now after)
      → SentFiles sent files was before now after → P files now after
  each_sent [] was now before after first all = absurd all
  each_sent (file ∷ files) was now before after first (middle, holds, one, rest) =
      each_behind (file ∷ []) files middle now holds after (first file middle holds one) rest
