-- The bytes of a page beside those of a layout that goes on from its text.
use Rattle.yaml_emitter.proofs.Common.{◌≤◌, Some, length, List, ◌++◌, ◌≡◌, length-append, ap, sym, ◌∙◌, arith, text_bytes, encode, Piece, text_written}
use Rattle.yaml_emitter.proofs.Common.{bytes_written, IsPrefix, Effective, encode-append, Page, encoded}

-- a text that goes on from a page's has no fewer bytes
pub more_bytes : (s : Effective) (page : Page) (whole : List Piece) → page.encoding ≡ Some s.encoding → IsPrefix page.text (text_written s whole)
    → length (encoded page) ≤ length (bytes_written s whole)
more_bytes s page whole is begins =
    let mine = encode (Some s.encoding) page.text in
    let all : bytes_written s whole ≡ mine ++ text_bytes s.encoding begins.rest =
    ap (encode (Some s.encoding)) (sym begins.parts) ∙ encode-append s.encoding page.text begins.rest in
    let same : encoded page ≡ mine = ap (λ e. encode e page.text) is in
    omega (arith, ap length all, ap length same, length-append mine (text_bytes s.encoding begins.rest))
