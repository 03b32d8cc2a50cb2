-- The characters of directives, by their bytes.
use Rattle.yaml_base.proofs.Common.{nat_tests}
use Rattle.yaml_mark.proofs.Common.{ℕ, IsUtf8, bytes_eq, string_bytes, encode_utf8_all as encodes, ◌||◌, List, [], map, ◌∷◌, refl, ◌≡◌, ap, sym, ◌∙◌, arith}
use Rattle.yaml_mark.proofs.Common.{same_from_decides, bytes_eq-Decides, encodes-chars, IsUtf8-string_bytes, list_any, chars, seen_directive, gives_handle}
use Rattle.yaml_base.specs.declared.directives.yaml_tag_directive_t.{yaml_tag_directive_t}

same_characters : (xs ys : List ℕ) → IsUtf8 xs → IsUtf8 ys → chars xs ≡ chars ys → xs ≡ ys
same_characters xs ys u v e = sym (encodes-chars xs u) ∙ ap encodes e ∙ encodes-chars ys v

-- texts are equal by their bytes exactly if they are by their characters
pub bytes_eq-chars : (xs ys : List ℕ) → IsUtf8 xs → IsUtf8 ys → bytes_eq xs ys ≡ bytes_eq (chars xs) (chars ys)
bytes_eq-chars xs ys u v = grind (arith, nat_tests, bytes_eq-Decides, chars, same_from_decides, same_characters)

pub gives_by_bytes : {A : Type 0} (handle : List ℕ) → IsUtf8 handle → (list : List (yaml_tag_directive_t A))
    → list_any (λ d. bytes_eq (string_bytes d.handle) handle) list ≡ gives_handle (chars handle) (map seen_directive list)
gives_by_bytes handle u [] = refl
gives_by_bytes handle u (d ∷ list) =
    ap (λ x. x || list_any (λ e. bytes_eq (string_bytes e.handle) handle) list)
    (bytes_eq-chars (string_bytes d.handle) handle (IsUtf8-string_bytes d.handle) u)
    ∙ ap (λ x. bytes_eq (chars (string_bytes d.handle)) (chars handle) || x) (gives_by_bytes handle u list)
