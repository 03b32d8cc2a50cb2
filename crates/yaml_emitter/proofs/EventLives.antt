-- The lifetimes of an event are those of its allocator, once for each of its texts and lists.
use Rattle.yaml_emitter.proofs.Common.{[], ◌++◌}
use mathlib.Core.List.{not-mem-nil}
use base.Fml.{Lft, Incl}
use base.Meet.{within_both}

-- How the lifetimes of a type are put together from its allocator's.
pub data Lives : Type 0 where
  own : Lives
  none : Lives
  both : Lives → Lives → Lives

abbrev pub lives_of : Lives → Lft → Lft
lives_of own lives = lives
lives_of none lives = []
lives_of (both first second) lives = lives_of first lives ++ lives_of second lives

lives_within : (shape : Lives) (ν lives : Lft) → Incl ν lives → Incl ν (lives_of shape lives)
lives_within own ν lives within = within
lives_within none ν lives within = λ a member. absurd (not-mem-nil member)
lives_within (both first second) ν lives within =
    within_both ν (lives_of first lives) (lives_of second lives) (lives_within first ν lives within) (lives_within second ν lives within)

abbrev pub vector : Lives
vector = both own none

abbrev pub string : Lives
string = both vector (both (both vector vector) none)

abbrev pub anchor : Lives
anchor = both string none

abbrev pub properties : Lives
properties = both anchor (both anchor none)

abbrev pub directives : Lives
directives = both (both (both (both vector (both string anchor)) vector) vector) none

abbrev pub node : Lives
node = both properties (both properties none)

abbrev pub event : Lives
event = both vector (both directives (both anchor (both (both properties (both properties anchor)) (both node (both node none)))))

-- So they are within every lifetime that the allocator's are within.
pub event_within : (ν lives : Lft) → Incl ν lives → Incl ν (lives_of event lives)
event_within = lives_within event
