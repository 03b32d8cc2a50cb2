-- The directive that an index finds among some directives, by the bytes of their handles and prefixes.
use Rattle.std.specs.Prelude.{◌≡◌, ℕ, ◌≤◌, ◌==◌, ◌&&◌, nat_le, if◌then◌else◌, Bool, true, Option, None, Some, List, length, drop, bytes_eq, string_bytes}
use Rattle.std.specs.Prelude.{position, MatchOption}
use Rattle.std.specs.List.{list_any, list_all}
use Rattle.std.specs.BTreeMap.{get_by_text}
use Rattle.std.specs.BTreeSet.{contains_text}
use Rattle.std.specs.declared.boxed.Box.{Box}
use Rattle.yaml_base.specs.declared.directives.yaml_tag_directive_t.{yaml_tag_directive_t}
use Rattle.yaml_mark.specs.Spelled.{begins_and_is_shorter}
use Rattle.yaml_mark.specs.declared.index.Index.{Index}

module _ {A : Type 0} where
  -- true if the handle has these bytes
  abbrev pub has_handle : List ℕ → yaml_tag_directive_t A → Bool
  has_handle bytes directive = bytes_eq (string_bytes directive.handle) bytes

  -- true if the prefix has these bytes
  abbrev pub has_prefix : List ℕ → yaml_tag_directive_t A → Bool
  has_prefix bytes directive = bytes_eq (string_bytes directive.prefix) bytes

  -- true if the prefix has this length
  abbrev pub is_prefix_length : yaml_tag_directive_t A → ℕ → Bool
  is_prefix_length directive number = length (string_bytes directive.prefix) == number

  -- true if the prefix is shorter than the tag, begins it, and has this length
  abbrev pub fits_by : List ℕ → ℕ → yaml_tag_directive_t A → Bool
  fits_by tag number directive = is_prefix_length directive number && begins_and_is_shorter (string_bytes directive.prefix) tag

  -- an index has the handles of these directives, the place of the first with each prefix, and the lengths of all
  -- prefixes
  pub record Finds (index : Index A) (directives : List (yaml_tag_directive_t A)) : Type 0 where
    pub handles : (bytes : List ℕ) → contains_text index.handles bytes ≡ list_any (has_handle bytes) directives
    pub prefixes : (bytes : List ℕ) → get_by_text index.prefixes bytes ≡ position (has_prefix bytes) directives
    pub lengths : list_all (λ directive. list_any (is_prefix_length directive) index.lengths.items) directives ≡ true

  -- an index, if there is one, has the directives from that number on
  abbrev pub IsIndexed : ℕ → Option (Box (Index A) A) → List (yaml_tag_directive_t A) → Type 0
  IsIndexed scanned index directives =
      MatchOption index (Unit {0}) (λ boxed. (scanned ≤ length directives) × Finds boxed.value (drop scanned directives))

-- the smaller of two numbers, if both are there; else the one that is
abbrev pub earlier : Option ℕ → Option ℕ → Option ℕ
earlier None other = other
earlier (Some n) None = Some n
earlier (Some n) (Some m) = Some (if nat_le n m then n else m)
