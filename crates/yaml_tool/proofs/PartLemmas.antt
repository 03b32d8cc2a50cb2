-- A script that is read part by part: the prefix that was read and the rest are the whole.
use Rattle.yaml_tool.proofs.Common.{arith}
use Rattle.yaml_tool.proofs.Common.{ℕ, IfSome, Option, None, Some, List, [], ◌++◌, ◌≡◌, ap, subst, sym, ◌∙◌, Script, script_of, ReadsAll, IsFault, IsFaultOf}
use Rattle.std.specs.{Io.KnownBytes.Consumes, Io.KnownBytes.IsAtEnd, Io.KnownBytes.Keeps, Prelude.⊤}
use Rattle.yaml_tool.specs.Scripts.{script_with, ContinuesScript}
use Rattle.yaml_tool.specs.declared.{answers.run_answer_t.run_answer_t, parts.ScriptPrefix.ScriptPrefix, scripts.ScriptError.ScriptError}
use Rattle.yaml_tool.specs.declared.answers.run_answer_t.TheVariants.{BadLine, Done, NoMemory, ReadFailed, Refused, WriteFailed}

-- at the end of the input the whole script was read
pub reads_at_end : (answer : run_answer_t) (left : Option (List ℕ)) → IsAtEnd left → ReadsAll answer left
reads_at_end ReadFailed left end = tt
reads_at_end NoMemory left end = tt
reads_at_end _ left end = end

-- the prefix that was read and the rest are the same script, if the rest is known
abbrev pub StillSays : {A : Type 0} → Option (List ℕ) → ScriptPrefix A → Option (List ℕ) → Type 0
StillSays None prefix left = ⊤
StillSays (Some all) prefix None = ⊥
StillSays (Some all) prefix (Some left) = script_of all ≡ script_with prefix left

pub says_first : {A : Type 0} (given : Option (List ℕ)) (prefix : ScriptPrefix A) → ((bytes : List ℕ) → script_with prefix bytes ≡ script_of bytes)
    → StillSays given prefix given
says_first None prefix is = tt
says_first (Some all) prefix is = sym (is all)

pub says_more : {A : Type 0} (given now next : Option (List ℕ)) (old new : ScriptPrefix A) → StillSays given old now → ContinuesScript old now new next
    → StillSays given new next
says_more None now next old new says goes = tt
says_more (Some all) None next old new says goes = absurd says
says_more (Some all) (Some left) None old new says goes = absurd goes
says_more (Some all) (Some left) (Some after) old new says goes = says ∙ goes

-- a script whose end was reached
pub says_all : {A : Type 0} (given left : Option (List ℕ)) (prefix : ScriptPrefix A) (script : Script) → StillSays given prefix left → IsAtEnd left
    → script_with prefix [] ≡ script → IfSome given (λ all. script_of all ≡ script)
says_all given left prefix script h1 h2 h3 = grind (arith, script_with)

pub bad_all : {A : Type 0} (given left : Option (List ℕ)) (prefix : ScriptPrefix A) (error : ScriptError) (answer : run_answer_t) → StillSays given prefix left
    → IsAtEnd left → IsFaultOf error (script_with prefix []) → ((script : Script) → IsFaultOf error script → IsFault answer script)
    → IfSome given (λ all. IsFault answer (script_of all))
bad_all None left prefix error answer says end bad reported = tt
bad_all (Some all) None prefix error answer says end bad reported = absurd says
bad_all (Some all) (Some left) prefix error answer says end bad reported =
    subst (IsFault answer) (sym (says ∙ ap (script_with prefix) end)) (reported (script_with prefix []) bad)

pub no_memory : (given : Option (List ℕ)) → IfSome given (λ all. IsFault NoMemory (script_of all))
no_memory None = tt
no_memory (Some all) = tt

pub bad_prefix : {A : Type 0} (given left : Option (List ℕ)) (prefix : ScriptPrefix A) (answer : run_answer_t) → StillSays given prefix left
    → IfSome left (λ bytes. IsFault answer (script_with prefix bytes)) → IfSome given (λ all. IsFault answer (script_of all))
bad_prefix None left prefix answer says bad = tt
bad_prefix (Some all) None prefix answer says bad = absurd says
bad_prefix (Some all) (Some left) prefix answer says bad = subst (IsFault answer) (sym says) bad

-- a part was taken from the rest
pub goes_on_behind : {A : Type 0} (old new : ScriptPrefix A) (before after : Option (List ℕ)) (part : List ℕ) → Consumes before after part
    → ((more : List ℕ) → script_with old (part ++ more) ≡ script_with new more) → ContinuesScript old before new after
goes_on_behind old new None after part consumes taken = tt
goes_on_behind old new (Some all) None part consumes taken = absurd consumes
goes_on_behind old new (Some all) (Some left) part consumes taken = ap (script_with old) consumes ∙ taken left

-- or is bad
pub bad_part : {A : Type 0} (old : ScriptPrefix A) (before after : Option (List ℕ)) (part : List ℕ) (error : ScriptError) (answer : run_answer_t)
    → Consumes before after part → ((more : List ℕ) → IsFaultOf error (script_with old (part ++ more)))
    → ((script : Script) → IsFaultOf error script → IsFault answer script) → IfSome before (λ left. IsFault answer (script_with old left))
bad_part old None after part error answer consumes bad reported = tt
bad_part old (Some all) None part error answer consumes bad reported = absurd consumes
bad_part old (Some all) (Some left) part error answer consumes bad reported =
    reported (script_with old all) (subst (λ bytes. IsFaultOf error (script_with old bytes)) (sym consumes) (bad left))

-- or nothing was taken
pub stays_behind : {A : Type 0} (prefix : ScriptPrefix A) (before after : Option (List ℕ)) → Keeps before after → ContinuesScript prefix before prefix after
stays_behind prefix None after keeps = tt
stays_behind prefix (Some all) None keeps = absurd keeps
stays_behind prefix (Some all) (Some left) keeps = ap (script_with prefix) (sym keeps)
