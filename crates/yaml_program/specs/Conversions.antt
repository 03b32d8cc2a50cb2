-- The conversion that options ask for, and what a conversion does with files whose bytes are known. `IsYaml` relates some files and the
-- bytes of the stream of their texts.
use Rattle.std.specs.Prelude.{◌≡◌, ◌≢◌, ◌⊎◌, ℕ, Option, Some, List, [], ◌∷◌, ◌++◌, codes, chars, encode_utf8_all, map, option_map, None, Bool, true, false}
use Rattle.std.specs.List.{Any}
use Rattle.std.specs.Io.KnownBytes.{Appends}
use Rattle.clap.specs.Words.{first_value, found_of}
use Rattle.clap.specs.declared.parser.matches.ArgMatches.{ArgMatches}
use Rattle.yaml_writer.specs.Headings.{comment_lines}
use Rattle.yaml_program.specs.Faults.{failure_status}
use Rattle.yaml_program.specs.Options.{IsOn, files_named, value_of}
use Rattle.yaml_program.specs.declared.arguments.Conversion.{Conversion}
use Rattle.yaml_program.specs.declared.faults.Failure.{Failure}

-- ---- the conversion that is asked for

-- True if the heading, the file that is written, the files that are read and the kind of conversion are those that the options name.
pub record IsAskedBy {F : Type 0} (matches : ArgMatches) (conversion : Conversion F) : Type 0 where
  pub heading : option_map (λ text. text.now) conversion.heading ≡ first_value (found_of matches) (codes "heading")
  pub checks : IsOn (value_of matches (codes "check")) conversion.checks
  pub each : IsOn (value_of matches (codes "each")) conversion.each
  pub output : option_map (λ name. name.now) conversion.output ≡ first_value (found_of matches) (codes "output")
  pub files : map (λ name. name.now) conversion.files.items ≡ files_named matches

-- The names that are read: the given ones, or that of standard input if none is given.
abbrev pub names_read : List (List ℕ) → List (List ℕ)
names_read [] = codes "-" ∷ []
names_read (name ∷ names) = name ∷ names

-- True if the files are the known bytes of the names, in order.
abbrev pub AreBytesOf : (List ℕ → Option (List ℕ)) → List (List ℕ) → List (List ℕ) → Type 0
AreBytesOf bytes_of [] [] = Unit {0}
AreBytesOf bytes_of (name ∷ names) (file ∷ files) = (bytes_of name ≡ Some file) × AreBytesOf bytes_of names files
AreBytesOf bytes_of _ _ = ⊥

-- True if the predicate holds of the bytes of all that is read by these names, if all of them are known.
abbrev pub OfNames : (List ℕ → Option (List ℕ)) → List (List ℕ) → (List (List ℕ) → Type 0) → Type 0
OfNames bytes_of names holds = (files : List (List ℕ)) → AreBytesOf bytes_of (names_read names) files → holds files

abbrev pub names_of : {F : Type 0} → Conversion F → List (List ℕ)
names_of conversion = map (λ name. name.now) conversion.files.items

abbrev pub OfFiles : {F : Type 0} → (List ℕ → Option (List ℕ)) → Conversion F → (List (List ℕ) → Type 0) → Type 0
OfFiles bytes_of conversion holds = OfNames bytes_of (names_of conversion) holds

-- The bytes of the lines of a heading.
abbrev pub heading_bytes : Option (List ℕ) → List ℕ
heading_bytes None = []
heading_bytes (Some text) = encode_utf8_all (comment_lines (chars text))

abbrev pub heading_of : {F : Type 0} → Conversion F → Option (List ℕ)
heading_of conversion = option_map (λ text. text.now) conversion.heading

-- ---- the bytes that a sink is given

-- True if the sink was given the stream of these files.
abbrev pub WroteStream : (IsYaml : List (List ℕ) → List ℕ → Type 0) → List (List ℕ) → Option (List ℕ) → Option (List ℕ) → Type 0
WroteStream IsYaml files before after = (bytes : List ℕ) × Appends before after bytes × IsYaml files bytes

-- True if the bytes are the heading's lines and then the stream of these files.
abbrev pub IsYamlBehind : (IsYaml : List (List ℕ) → List ℕ → Type 0) → (heading : Option (List ℕ)) → List (List ℕ) → List ℕ → Type 0
IsYamlBehind IsYaml heading files bytes = (yaml : List ℕ) × (bytes ≡ heading_bytes heading ++ yaml) × IsYaml files yaml

-- True if the sink was given the heading's lines and then the stream of these files.
abbrev pub WroteFiles : (IsYaml : List (List ℕ) → List ℕ → Type 0) → (heading : Option (List ℕ)) → List (List ℕ) → Option (List ℕ)
    → Option (List ℕ) → Type 0
WroteFiles IsYaml heading files before after = (bytes : List ℕ) × Appends before after bytes × IsYamlBehind IsYaml heading files bytes

-- True if the sink was given the heading's lines and the stream of the files that the conversion reads.
abbrev pub WroteConversion : {F : Type 0} → (is_yaml : F → List (List ℕ) → List ℕ → Type 0) → (List ℕ → Option (List ℕ)) → Conversion F
    → Option (List ℕ) → Option (List ℕ) → Type 0
WroteConversion is_yaml bytes_of conversion before after =
    OfFiles bytes_of conversion (λ files. WroteFiles (is_yaml conversion.format) (heading_of conversion) files before after)

-- True if the conversion writes to standard output, since it names no other file.
abbrev pub IsToStream : {F : Type 0} → Conversion F → Type 0
IsToStream conversion =
    (option_map (λ name. name.now) conversion.output ≡ None) ⊎ (option_map (λ name. name.now) conversion.output ≡ Some (codes "-"))

-- True if standard output was given the heading's lines and the stream of the files, if the conversion writes there.
abbrev pub WroteToStream : {F : Type 0} → (is_yaml : F → List (List ℕ) → List ℕ → Type 0) → (List ℕ → Option (List ℕ)) → Conversion F
    → Option (List ℕ) → Option (List ℕ) → Type 0
WroteToStream is_yaml bytes_of conversion before after =
    IsToStream conversion → conversion.checks ≡ false → WroteConversion is_yaml bytes_of conversion before after

-- True if these files have a stream.
abbrev pub HaveYaml : (IsYaml : List (List ℕ) → List ℕ → Type 0) → List (List ℕ) → Type 0
HaveYaml IsYaml files = (bytes : List ℕ) × IsYaml files bytes

-- True if these files have no stream.
abbrev pub HaveNoYaml : (IsYaml : List (List ℕ) → List ℕ → Type 0) → List (List ℕ) → Type 0
HaveNoYaml IsYaml files = HaveYaml IsYaml files → ⊥

-- True of a failure if it has status 1 only if the files that are read have no stream.
abbrev pub RefusesFiles : (List ℕ → Option (List ℕ)) → (IsYaml : List (List ℕ) → List ℕ → Type 0) → (names : List (List ℕ)) → Failure → Type 0
RefusesFiles bytes_of IsYaml names failure = failure_status failure ≡ 1 → OfNames bytes_of names (HaveNoYaml IsYaml)

-- The same of a conversion, by the relation of its format.
abbrev pub RefusesConversion : {F : Type 0} → (is_yaml : F → List (List ℕ) → List ℕ → Type 0) → (List ℕ → Option (List ℕ)) → Conversion F → Failure
    → Type 0
RefusesConversion is_yaml bytes_of conversion = RefusesFiles bytes_of (is_yaml conversion.format) (names_of conversion)

-- ---- the effect of a conversion

-- True if the bytes of what has this name, if they are known, are the heading's lines and the stream of the files that are read.
abbrev pub IsThere : (List ℕ → Option (List ℕ)) → (IsYaml : List (List ℕ) → List ℕ → Type 0) → (heading : Option (List ℕ)) → List (List ℕ)
    → (name : List ℕ) → Type 0
IsThere bytes_of IsYaml heading names name =
    OfNames bytes_of names (λ files. (there : List ℕ) → bytes_of name ≡ Some there → IsYamlBehind IsYaml heading files there)

-- True if the files that are read have a stream and, if files are compared, the target's bytes are the heading and that stream.
pub record IsDoneAs (bytes_of : List ℕ → Option (List ℕ)) (IsYaml : List (List ℕ) → List ℕ → Type 0) (heading : Option (List ℕ)) (checks : Bool)
    (names : List (List ℕ)) (target : Option (List ℕ)) : Type 0 where
  pub stream : OfNames bytes_of names (HaveYaml IsYaml)
  pub there : checks ≡ true → (name : List ℕ) → target ≡ Some name → IsThere bytes_of IsYaml heading names name

-- The same of a conversion, by the relation of its format.
abbrev pub IsDone : {F : Type 0} → (is_yaml : F → List (List ℕ) → List ℕ → Type 0) → (List ℕ → Option (List ℕ)) → Conversion F
    → (target : Option (List ℕ)) → Type 0
IsDone is_yaml bytes_of conversion target =
    IsDoneAs bytes_of (is_yaml conversion.format) (heading_of conversion) conversion.checks (names_of conversion) target

-- True if the target's name is the name with `.yaml` in place of the format's ending.
pub record IsBeside (ending name target : List ℕ) : Type 0 where
  pub stem : List ℕ
  pub ends : name ≡ stem ++ ending
  pub is : target ≡ stem ++ codes ".yaml"

-- True if one file is converted by itself to the file beside it.
pub record IsDoneBeside {F : Type 0} (is_yaml : F → List (List ℕ) → List ℕ → Type 0) (ending : List ℕ) (bytes_of : List ℕ → Option (List ℕ))
    (conversion : Conversion F) (name : List ℕ) : Type 0 where
  pub target : List ℕ
  pub beside : IsBeside ending name target
  pub done : IsDoneAs bytes_of (is_yaml conversion.format) (heading_of conversion) conversion.checks (name ∷ []) (Some target)

abbrev pub HoldsOfEach : (List ℕ → Type 0) → List (List ℕ) → Type 0
HoldsOfEach holds [] = Unit {0}
HoldsOfEach holds (name ∷ names) = holds name × HoldsOfEach holds names

abbrev pub EachIsDone : {F : Type 0} → (is_yaml : F → List (List ℕ) → List ℕ → Type 0) → (ending : List ℕ) → (List ℕ → Option (List ℕ))
    → Conversion F → List (List ℕ) → Type 0
EachIsDone is_yaml ending bytes_of conversion names = HoldsOfEach (IsDoneBeside is_yaml ending bytes_of conversion) names

-- True if each file is converted by itself, or all of them together.
abbrev pub AllDone : {F : Type 0} → (is_yaml : F → List (List ℕ) → List ℕ → Type 0) → (ending : List ℕ) → (List ℕ → Option (List ℕ))
    → Conversion F → (each : Bool) → Type 0
AllDone is_yaml ending bytes_of conversion true = EachIsDone is_yaml ending bytes_of conversion (names_of conversion)
AllDone is_yaml ending bytes_of conversion false = IsDone is_yaml bytes_of conversion (option_map (λ name. name.now) conversion.output)

-- ---- a conversion that isn't done

-- True if the files have a stream, and what has this name doesn't have the bytes of the heading's lines and that stream.
abbrev pub Differs : (List ℕ → Option (List ℕ)) → (IsYaml : List (List ℕ) → List ℕ → Type 0) → (heading : Option (List ℕ)) → List (List ℕ)
    → (name : List ℕ) → Type 0
Differs bytes_of IsYaml heading files name = (bytes : List ℕ) × IsYamlBehind IsYaml heading files bytes × (bytes_of name ≢ Some bytes)

-- True if the files that are read have no stream, or files are compared and the target differs.
abbrev pub IsUndoneAs : (List ℕ → Option (List ℕ)) → (IsYaml : List (List ℕ) → List ℕ → Type 0) → (heading : Option (List ℕ)) → (checks : Bool)
    → (names : List (List ℕ)) → (target : Option (List ℕ)) → Type 0
IsUndoneAs bytes_of IsYaml heading checks names target =
    OfNames bytes_of names (λ files.
    HaveNoYaml IsYaml files ⊎ ((checks ≡ true) × (name : List ℕ) × (target ≡ Some name) × Differs bytes_of IsYaml heading files name))

-- The same of a conversion, by the relation of its format.
abbrev pub IsUndone : {F : Type 0} → (is_yaml : F → List (List ℕ) → List ℕ → Type 0) → (List ℕ → Option (List ℕ)) → Conversion F
    → (target : Option (List ℕ)) → Type 0
IsUndone is_yaml bytes_of conversion target =
    IsUndoneAs bytes_of (is_yaml conversion.format) (heading_of conversion) conversion.checks (names_of conversion) target

-- True if a file isn't converted by itself to the file beside it.
pub record IsUndoneBeside {F : Type 0} (is_yaml : F → List (List ℕ) → List ℕ → Type 0) (ending : List ℕ) (bytes_of : List ℕ → Option (List ℕ))
    (conversion : Conversion F) (name : List ℕ) : Type 0 where
  pub target : List ℕ
  pub beside : IsBeside ending name target
  pub undone : IsUndoneAs bytes_of (is_yaml conversion.format) (heading_of conversion) conversion.checks (name ∷ []) (Some target)

-- True if one of the files isn't converted by itself, or all of them aren't together.
abbrev pub SomeUndone : {F : Type 0} → (is_yaml : F → List (List ℕ) → List ℕ → Type 0) → (ending : List ℕ) → (List ℕ → Option (List ℕ))
    → Conversion F → (each : Bool) → Type 0
SomeUndone is_yaml ending bytes_of conversion true = Any (IsUndoneBeside is_yaml ending bytes_of conversion) (names_of conversion)
SomeUndone is_yaml ending bytes_of conversion false = IsUndone is_yaml bytes_of conversion (option_map (λ name. name.now) conversion.output)

-- True if the name doesn't have the format's ending.
abbrev pub EndsOtherwise : (ending name : List ℕ) → Type 0
EndsOtherwise ending name = (stem : List ℕ) → name ≢ stem ++ ending

-- True if the options name no file with which the YAML could be compared.
abbrev pub ComparesNothing : {F : Type 0} → Conversion F → Type 0
ComparesNothing conversion = (conversion.checks ≡ true) × (conversion.each ≡ false) × IsToStream conversion

-- True if a conversion is refused for its options: for its depth, since it compares nothing, or for a name without the format's ending.
abbrev pub IsRefusedByOptions : {F : Type 0} → (allows_depth : F → Bool) → (ending : List ℕ) → Conversion F → Type 0
IsRefusedByOptions allows_depth ending conversion =
    (allows_depth conversion.format ≡ false)
    ⊎ (ComparesNothing conversion ⊎ ((conversion.each ≡ true) × Any (EndsOtherwise ending) (names_of conversion)))
