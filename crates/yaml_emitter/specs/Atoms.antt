-- Atoms and names, which are written on one line.
use Rattle.std.specs.Prelude.{ℕ, Bool, false, Option, None, Some, List, ◌&&◌, nat_lt}
use Rattle.std.specs.List.{list_any, list_all}
use Rattle.yaml_base.specs.Characters.{Text, is_break}
use Rattle.yaml_base.specs.Event.{TagDirective}

-- true if each of these bytes is ASCII and no blank, break or control
abbrev pub is_visible_ascii : List ℕ → Bool
is_visible_ascii bytes = list_all (λ c. nat_lt 0x20 c && nat_lt c 0x7F) bytes

-- true if there is a name and it holds a break
abbrev pub name_breaks : Option Text → Bool
name_breaks None = false
name_breaks (Some name) = list_any is_break name

-- true if some directive's handle holds a break
abbrev pub some_handle_breaks : List TagDirective → Bool
some_handle_breaks directives = list_any (λ directive. list_any is_break directive.handle) directives
