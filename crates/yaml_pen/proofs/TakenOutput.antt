-- An outlet holds the same bytes when the rest of its output is taken.
use Rattle.yaml_pen.proofs.Common.{ℕ, ◌+◌, ◌≤◌, ◌≡◌, Option, length, take, List, [], ◌++◌, append-nil, length-append, ap, subst, sym, arith, OutletState}
use Rattle.yaml_pen.proofs.Common.{IsFlushedOutput}
use Rattle.std.proofs.{Math.Seq.drop-append_seam, Common.drop}
use Rattle.yaml_base.specs.declared.errors.yaml_error_t.{yaml_error_t}
use Rattle.yaml_pen.specs.Outlet.{IsOutlet, bytes_of, whole_output}

pub left_of : (taken left : List ℕ) → left ≡ drop (length taken) (whole_output taken left)
unfolding whole_output
left_of taken left = sym (drop-append_seam taken left)

all_of : (taken left : List ℕ) → whole_output (taken ++ left) [] ≡ whole_output taken left
unfolding whole_output
all_of taken left = append-nil (taken ++ left)

pub moved : (kept : ℕ) (buffer taken left : List ℕ) (limit : ℕ) (error : Option yaml_error_t)
    → bytes_of kept buffer (taken ++ left) [] limit error
    ≡ record (bytes_of kept buffer taken left limit error) { taken = length (whole_output taken left) }
unfolding whole_output
moved kept buffer taken left limit error =
    ap (λ (output : List ℕ). let b : OutletState = record {
      all = take kept output ++ buffer;
      output = output;
      taken = length (taken ++ left);
      limit = limit;
      error = error;
    } in b) (append-nil (taken ++ left))
