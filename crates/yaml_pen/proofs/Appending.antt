-- An outlet after bytes are put into its buffer.
use Rattle.yaml_base.proofs.Common.{ℕ, Option, None, Some, List, length, take, ◌++◌, refl, ◌≡◌, append_assoc, ap, subst, sym, ◌∙◌, cut}
use Rattle.std.proofs.Math.Seq.{take-append_seam, take-length}
use Rattle.yaml_base.{proofs.Prefixes.prefix_itself, specs.Prefix.IsPrefix, specs.declared.errors.yaml_error_t.yaml_error_t}
use Rattle.yaml_base.specs.declared.errors.yaml_error_t.TheVariants.{WriteError}
use Rattle.yaml_pen.specs.{Outlet.Appended, Outlet.OutletState, Outlet.bytes_of, Outlet.Emptied, Outlet.IsOutlet, Outlet.whole_output, Page.IsFlushedOutput}
use Rattle.yaml_pen.proofs.{Common.Ok, Common.IsSome, Common.false≢true, Common.result_of_error, Writing.none_from_result}

-- room was made if there was none, or there was some: nothing failed, and no byte is lost
pub record MadeRoom (before after : OutletState) : Type 0 where
  pub no_error : before.error ≡ None
  pub unfailed : after.error ≡ None
  pub all : after.all ≡ before.all
  pub limit : after.limit ≡ before.limit
  pub taken : after.taken ≡ before.taken
  pub output : IsPrefix before.output after.output

pub room_left : (bytes : OutletState) → bytes.error ≡ None → MadeRoom bytes bytes
room_left bytes none = record { no_error = none; unfailed = none; all = refl; limit = refl; taken = refl; output = prefix_itself bytes.output }

pub unfailed : (error : Option yaml_error_t) → ((e : yaml_error_t) → error ≡ Some e → ⊥) → error ≡ None
unfailed None never = refl
unfailed (Some e) never = absurd (never e refl)

none_is_not_some : (error : Option yaml_error_t) → error ≡ None → IsSome error → ⊥
none_is_not_some error none some = false≢true (subst (λ (o : Option yaml_error_t). IsSome o) none some)

no_write_error : (error : Option yaml_error_t) → error ≡ None → error ≡ Some WriteError → ⊥
no_write_error error none some = cc

-- the flushed bytes stay a prefix when more bytes follow
still_flushed : (kept : ℕ) (buffer more output : List ℕ) (limit : ℕ) (error : Option yaml_error_t) → error ≡ None → kept ≡ length output
    → IsFlushedOutput (take kept output ++ buffer) output limit error → IsFlushedOutput (take kept output ++ more) output limit error
still_flushed kept buffer more output limit error none whole flushed =
    record {
      prefix =
          sym (take-append_seam output more)
          ∙ ap (λ (l : List ℕ). cut (length output) (l ++ more)) (sym (take-length output) ∙ ap (λ n. take n output) (sym whole));
      within = flushed.within;
      full = λ some. absurd (no_write_error error none some);
      named = flushed.named;
    }

pub appended : (bytes : List ℕ) (before : OutletState) (kept count : ℕ) (buffer now taken left : List ℕ) (limit : ℕ) (error : Option yaml_error_t)
    → MadeRoom before (bytes_of kept buffer taken left limit error) → IsOutlet kept count buffer taken left limit error → now ≡ buffer ++ bytes
    → Appended bytes before (bytes_of kept now taken left limit error) (Ok tt)
appended bytes before kept count buffer now taken left limit error room outlet is =
    let output = whole_output taken left in
    record {
      answered = sym (ap result_of_error room.unfailed);
      limit = room.limit;
      taken = room.taken;
      output = room.output;
      sound_output = still_flushed kept buffer now output limit error room.unfailed (outlet.whole room.unfailed) outlet.sound_output;
      whole = λ none. (
        room.no_error,
        ap (λ (l : List ℕ). take kept output ++ l) is ∙ sym (append_assoc (take kept output) buffer bytes) ∙ ap (λ (l : List ℕ). l ++ bytes) room.all,
      );
      none = λ some. absurd (none_is_not_some error room.unfailed some);
      stopped = λ some. absurd (none_is_not_some before.error room.no_error some);
    }
