-- The statements of an error on the text and on the writer.
use Rattle.yaml_toml.proofs.Common.{◌≡◌, List, ℕ, Option, None, refl, ap, subst, sym, ◌∙◌, WriterState, inl, none-some, IfSome, Fault, yaml_error_t, Memory}
use Rattle.yaml_toml.proofs.Common.{fault_error, toml_writers_error, TomlError}
use Rattle.yaml_writer.specs.Failing.{HasErrorSaid}
use Rattle.toml_ordered.specs.{Places.FaultIsPlaced, Places.place_left, Reading.IsMemory}
use Rattle.yaml_toml.specs.{Walk.DeniesToml, Places.HasTomlPlace, Places.IsBeforeLeft}
use Rattle.toml_ordered.specs.declared.fault.Fault.TheVariants as fault
use Rattle.yaml_toml.specs.declared.error.TomlError.TheVariants as errors

said_fault : (was : WriterState) (found : Fault) → HasErrorSaid was (fault_error found) was
said_fault was fault.Memory = inl (refl, λ none. none)
said_fault was _ = λ none. none

-- nothing was given
pub said_of : (was : WriterState) (found : Fault) (error : TomlError) → toml_writers_error error ≡ fault_error found
    → HasErrorSaid was (toml_writers_error error) was
said_of was found error is = subst (λ (said : Option yaml_error_t). HasErrorSaid was said was) (sym is) (said_fault was found)

writers_none : (error : TomlError) → DeniesToml error → toml_writers_error error ≡ None
writers_none errors.TooDeep denies = absurd denies
writers_none (errors.Emitter error) denies = absurd denies
writers_none _ denies = refl

-- an error that denies the text isn't of memory
pub denied : (found : Fault) (error : TomlError) → toml_writers_error error ≡ fault_error found → DeniesToml error → IsMemory found → ⊥
denied found error is denies memory = none-some Memory (sym (writers_none error denies) ∙ is ∙ ap fault_error memory)

-- an error of the text has the place of its fault
pub placed_of : (text : List ℕ) (found : Fault) (error : TomlError) → toml_writers_error error ≡ fault_error found → FaultIsPlaced text found
    → IfSome (place_left found) (λ left. IsBeforeLeft text left error) → HasTomlPlace text error
placed_of text fault.Memory error is stops at = λ denies. absurd (denied fault.Memory error is denies refl)
placed_of text (fault.NotToml left why) error is stops at = λ denies. (left, stops, at)
placed_of text (fault.TooDeep left) error is stops at = λ denies. (left, stops, at)
placed_of text (fault.DefinedAgain key name first second) error is stops at = λ denies. (second, stops, at)
