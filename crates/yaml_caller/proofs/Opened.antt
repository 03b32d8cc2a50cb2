-- Entries that aren't opened.
use Rattle.yaml_caller.proofs.Common.{ℕ, List, ◌⊎◌, inl, inr, ap, sym, ◌≡◌, ◌∙◌, Err, IfErr, Ok, Result}
use Rattle.std.specs.Prelude.{Vec}
use Rattle.yaml_base.specs.values.TypedValues.{TypedValue}
use Rattle.yaml_value.specs.declared.keys.Keys.{Keys}
use Rattle.yaml_value.specs.declared.value.Value.{Value}
use Rattle.yaml_value.proofs.WritingLemmas.{text_written}
use Rattle.yaml_read.proofs.ChosenKeys.{NoneAllowed}
use Rattle.yaml_read.specs.AllowedKeys.{KeysAllow}
use Rattle.yaml_read.specs.Readable.{CanBeRead}
use Rattle.yaml_read.specs.declared.errors.ReadError.{ReadError}
use Rattle.yaml_read.specs.declared.errors.ReadError.TheVariants as told
use Rattle.yaml_caller.specs.Store.{IsEntryOf}
use Rattle.yaml_caller.specs.declared.store.OpenError.{OpenError}
use Rattle.yaml_caller.specs.declared.store.OpenError.TheVariants.{NotRead}

-- a call that succeeded didn't fail
pub no_error : {T E : Type 0} {error : E} (found : T) → ◌≡◌ {A = Result T E} (Ok found) (Err error) → ⊥
no_error found is = cc

-- bytes that aren't read are in no entry
pub not_opened : {A : Type 0} (mode : Keys) (bytes : Vec ℕ A) (digest read : List ℕ) (error : ReadError) → read ≡ bytes.items
    → NoneAllowed mode read error
    → (NotRead error ≡ NotRead told.Memory)
    ⊎ ((value : TypedValue) → CanBeRead value → KeysAllow mode value → IsEntryOf value bytes.items digest → ⊥)
not_opened mode bytes digest read error is (inl memory) = inl (ap NotRead memory)
not_opened mode bytes digest read error is (inr none) =
    inr (λ value readable allow entry. none value readable allow (sym (text_written value (Ok bytes) entry.written) ∙ sym is))

-- the entry of a value is opened, unless memory runs out
pub only_memory : {A : Type 0} (mode : Keys) (value : TypedValue) (bytes digest : List ℕ) (answer : Result (Value A) OpenError)
    → IsEntryOf value bytes digest → KeysAllow mode value → CanBeRead value
    → IfErr answer (λ error. (error ≡ NotRead told.Memory)
    ⊎ ((other : TypedValue) → CanBeRead other → KeysAllow mode other → IsEntryOf other bytes digest → ⊥))
    → IfErr answer (λ error. error ≡ NotRead told.Memory)
only_memory mode value bytes digest (Ok found) entry allow readable complete = tt
only_memory mode value bytes digest (Err error) entry allow readable (inl memory) = memory
only_memory mode value bytes digest (Err error) entry allow readable (inr none) = absurd (none value readable allow entry)
