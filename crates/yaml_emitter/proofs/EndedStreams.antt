-- A list whose last event is the stream's end ends the stream.
use Rattle.yaml_emitter.proofs.Common.{true, List, [], ◌++◌, ◌∷◌, refl, ◌≡◌, ◌∙◌, Event, stream_end, ends_stream}

-- more events before the last are passed over
ends_later : (event next : Event) (rest : List Event) → ends_stream (event ∷ next ∷ rest) ≡ ends_stream (next ∷ rest)
ends_later stream_end next rest = refl
ends_later event next rest = refl

pub ends_last : (events : List Event) → ends_stream (events ++ stream_end ∷ []) ≡ true
ends_last [] = refl
ends_last (event ∷ []) = ends_later event stream_end []
ends_last (event ∷ next ∷ rest) = ends_later event next (rest ++ stream_end ∷ []) ∙ ends_last (next ∷ rest)
